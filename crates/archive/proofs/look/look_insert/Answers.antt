use Rattle.std.proofs.Common.{◌≡◌, Some, sym, ◌∙◌}
use Rattle.std.proofs.lemmas.Result.{err_from_is_err_and}
use Rattle.archive.specs.Looking.{in_use}
use Rattle.archive.proofs.Looks.{insert_misplaced, insert_stopped, insert_lost, insert_ample, insert_few, insert_fine}
use Rattle.archive.proofs.look.look_insert.Goals as goal

pub returns-then-from-place-clause-looked : goal.returns-then-from-place-clause-looked
returns-then-from-place-clause-looked g c = λ es st.
    let q : in_use c.args.versions.now c.args.count c.args.base ≡ Some c.in_ok-from.from = sym c.version_at.ensures ∙ c.in_ok-from.ensures.ok_part in
    insert_misplaced g.Q.Summary.means _ es st c.args.base c.args.place c.args.level c.args.len c.in_ok-from.from q c.if-from-place.true

pub returns-in_err-early_fault-clause-looked : goal.returns-in_err-early_fault-clause-looked
returns-in_err-early_fault-clause-looked g c =
    let p = err_from_is_err_and c.from_residual-in_err-early_fault.result c.from_residual-in_err-early_fault.ensures.1 in
    let q : in_use c.args.versions.now c.args.count c.args.base ≡ Some c.in_ok-from.from = sym c.version_at.ensures ∙ c.in_ok-from.ensures.ok_part in
    let tried = rw c.is_full.ensures at c.in_err-early_fault.ensures in
    rw (p.1, p.2) (λ es st.
    insert_stopped g.Q.Summary.means _ es st c.args.base c.args.place c.args.level c.args.len c.in_ok-from.from q c.if-from-place.false _ (sym tried))

pub returns-then-ample-clause-looked : goal.returns-then-ample-clause-looked
returns-then-ample-clause-looked g c = λ es st.
    let q : in_use c.args.versions.now c.args.count c.args.base ≡ Some c.in_ok-from.from = sym c.version_at.ensures ∙ c.in_ok-from.ensures.ok_part in
    let tried = rw c.is_full.ensures at c.in_ok-early_fault.ensures in
    insert_ample g.Q.Summary.means _ es st c.args.base c.args.place c.args.level c.args.len c.in_ok-from.from q c.if-from-place.false (sym tried) (sym c.has_free-ample.ensures ∙ c.if-ample.true)

pub returns-in_err-way-clause-looked : goal.returns-in_err-way-clause-looked
returns-in_err-way-clause-looked g c = λ es st.
    let q : in_use c.args.versions.now c.args.count c.args.base ≡ Some c.in_ok-from.from = sym c.version_at.ensures ∙ c.in_ok-from.ensures.ok_part in
    absurd (insert_lost g.Q.Summary.means _ es st c.args.base c.args.place c.in_ok-from.from q c.if-from-place.false (rw c.in_err-way.ensures.ok_part at c.path.ensures.counted))

pub returns-then-not-has_free-clause-looked : goal.returns-then-not-has_free-clause-looked
returns-then-not-has_free-clause-looked g c = λ es st.
    let q : in_use c.args.versions.now c.args.count c.args.base ≡ Some c.in_ok-from.from = sym c.version_at.ensures ∙ c.in_ok-from.ensures.ok_part in
    let tried = rw c.is_full.ensures at c.in_ok-early_fault.ensures in
    insert_few g.Q.Summary.means _ es st c.args.base c.args.place c.args.level c.args.len c.in_ok-from.from q c.if-from-place.false (sym tried) c.in_ok-way.way (rw c.in_ok-way.ensures.ok_part at c.path.ensures.counted) (sym (rw c.from.ensures at c.has_free.ensures) ∙ c.if-not-has_free.true)

pub returns-clause-looked : goal.returns-clause-looked
returns-clause-looked g c = λ es st.
    let q : in_use c.args.versions.now c.args.count c.args.base ≡ Some c.in_ok-from.from = sym c.version_at.ensures ∙ c.in_ok-from.ensures.ok_part in
    let tried = rw c.is_full.ensures at c.in_ok-early_fault.ensures in
    insert_fine g.Q.Summary.means _ es st c.args.base c.args.place c.args.level c.args.len c.in_ok-from.from q c.if-from-place.false (sym tried) c.in_ok-way.way (rw c.in_ok-way.ensures.ok_part at c.path.ensures.counted) (sym (rw c.from.ensures at c.has_free.ensures) ∙ c.if-not-has_free.false)
