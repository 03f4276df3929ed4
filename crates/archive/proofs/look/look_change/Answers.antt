use Rattle.std.proofs.Common.{◌≡◌, ◌+◌, Some, sym, ◌∙◌, add-one, arith}
use Rattle.std.proofs.lemmas.Result.{err_from_is_err_and}
use Rattle.archive.specs.Looking.{in_use}
use Rattle.archive.proofs.Looks.{change_misplaced, change_stopped, insert_lost, change_ample, change_few, change_fine}
use Rattle.archive.proofs.look.look_change.Goals as goal

pub returns-then-from-place-clause-looked : goal.returns-then-from-place-clause-looked
returns-then-from-place-clause-looked g c = λ es st.
    let q : in_use c.args.versions.now c.args.count c.args.base ≡ Some c.in_ok-from.from = sym c.version_at.ensures ∙ c.in_ok-from.ensures.ok_part in
    change_misplaced g.Q.Summary.means _ es st c.args.base c.args.place c.in_ok-from.from q c.args.len c.if-from-place.true

pub returns-in_err-early_fault-clause-looked : goal.returns-in_err-early_fault-clause-looked
returns-in_err-early_fault-clause-looked g c =
    let p = err_from_is_err_and c.from_residual-in_err-early_fault.result c.from_residual-in_err-early_fault.ensures.1 in
    let q : in_use c.args.versions.now c.args.count c.args.base ≡ Some c.in_ok-from.from = sym c.version_at.ensures ∙ c.in_ok-from.ensures.ok_part in
    let tried = rw c.is_full.ensures at c.in_err-early_fault.ensures in
    rw (p.1, p.2) (λ es st.
    change_stopped g.Q.Summary.means _ es st c.args.base c.args.place c.in_ok-from.from q c.if-from-place.false c.args.len _ (sym tried))

pub returns-then-ample-clause-looked : goal.returns-then-ample-clause-looked
returns-then-ample-clause-looked g c = λ es st.
    let q : in_use c.args.versions.now c.args.count c.args.base ≡ Some c.in_ok-from.from = sym c.version_at.ensures ∙ c.in_ok-from.ensures.ok_part in
    let tried = rw c.is_full.ensures at c.in_ok-early_fault.ensures in
    change_ample g.Q.Summary.means _ es st c.args.base c.args.place c.in_ok-from.from q c.if-from-place.false c.args.len (sym tried) (sym c.has_free-ample.ensures ∙ c.if-ample.true)

pub returns-in_err-way-clause-looked : goal.returns-in_err-way-clause-looked
returns-in_err-way-clause-looked g c = λ es st.
    let q : in_use c.args.versions.now c.args.count c.args.base ≡ Some c.in_ok-from.from = sym c.version_at.ensures ∙ c.in_ok-from.ensures.ok_part in
    absurd (insert_lost g.Q.Summary.means _ es st c.args.base (c.args.place + 1) c.in_ok-from.from q (omega arith) (rw c.in_err-way.ensures.ok_part at c.path.ensures.counted))

pub returns-then-not-has_free-clause-looked : goal.returns-then-not-has_free-clause-looked
returns-then-not-has_free-clause-looked g c = λ es st.
    let q : in_use c.args.versions.now c.args.count c.args.base ≡ Some c.in_ok-from.from = sym c.version_at.ensures ∙ c.in_ok-from.ensures.ok_part in
    let tried = rw c.is_full.ensures at c.in_ok-early_fault.ensures in
    change_few g.Q.Summary.means _ es st c.args.base c.args.place c.in_ok-from.from q c.if-from-place.false c.args.len (sym tried) c.in_ok-way.way (rw (add-one c.args.place, c.in_ok-way.ensures.ok_part) at c.path.ensures.counted) (sym (rw c.from.ensures at c.has_free.ensures) ∙ c.if-not-has_free.true)

pub returns-clause-looked : goal.returns-clause-looked
returns-clause-looked g c = λ es st.
    let q : in_use c.args.versions.now c.args.count c.args.base ≡ Some c.in_ok-from.from = sym c.version_at.ensures ∙ c.in_ok-from.ensures.ok_part in
    let tried = rw c.is_full.ensures at c.in_ok-early_fault.ensures in
    change_fine g.Q.Summary.means _ es st c.args.base c.args.place c.in_ok-from.from q c.if-from-place.false c.args.len (sym tried) c.in_ok-way.way (rw (add-one c.args.place, c.in_ok-way.ensures.ok_part) at c.path.ensures.counted) (sym (rw c.from.ensures at c.has_free.ensures) ∙ c.if-not-has_free.false)
