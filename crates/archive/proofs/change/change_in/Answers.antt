use Rattle.std.proofs.Common.{leb, length, set, ap, ◌∙◌, refl, arith}
use Rattle.std.proofs.lemmas.Result.{err_from_is_err_and}
use Rattle.archive.specs.Calling as asked
use Rattle.archive.specs.Refusals.{change_early}
use Rattle.archive.specs.Stands.{tables_of, version_limit}
use Rattle.archive.proofs.Inserts.{looked_unfit}
use Rattle.archive.proofs.Changes.{answered}
use Rattle.archive.proofs.Kept.{change_passed, early_none, left_unfit, done_by}
use Rattle.archive.proofs.change.change_in.Goals as goal

pub returns-in_err-put-clause-left : goal.returns-in_err-put-clause-left
returns-in_err-put-clause-left g c =
    let p = err_from_is_err_and c.from_residual-in_err-put.result c.from_residual-in_err-put.ensures.1 in
    let law = g.met.S.BlockStore.lawful _ _ _ _ c.in_err-put.ensures in
    let t = (tables_of c.args.nodes.now c.args.used c.args.versions.now c.args.count) in
    let e = asked.Asked.change c.args.base c.args.place c.args.row.now in
    rw (p.1, p.2) (left_unfit g.Q.Summary.means g.S.BlockStore t c.args.store.now c.put.new.self e c.in_err-put.field-0.0
    (early_none g.Q.Summary.means g.S.BlockStore t c.args.store.now c.put.new.self e (change_early (leb (version_limit (tables_of c.args.nodes.now c.args.used c.args.versions.now c.args.count)) c.args.count) c.args.place (length c.args.row.now)) c.in_ok-from.from c.in_ok-from.ensures.ends refl) law.one law.kept)

pub returns-in_err-put-clause-law : goal.returns-in_err-put-clause-law
returns-in_err-put-clause-law g c =
    let p = err_from_is_err_and c.from_residual-in_err-put.result c.from_residual-in_err-put.ensures.1 in
    let law = g.met.S.BlockStore.lawful _ _ _ _ c.in_err-put.ensures in
    rw (p.1, p.2) (λ es st. looked_unfit _ _ c.in_ok-from.from c.in_err-put.field-0.0 _ _ (c.in_ok-from.ensures.looked es st.tables) law.one)

pub returns-clause-left : goal.returns-clause-left
returns-clause-left g c =
    let law = g.met.S.BlockStore.lawful _ _ _ _ c.in_ok-put.ensures in
    let t = (tables_of c.args.nodes.now c.args.used c.args.versions.now c.args.count) in
    done_by g.Q.Summary.means g.S.BlockStore t c.args.store.now c.put.new.self (asked.Asked.change c.args.base c.args.place c.args.row.now) c.in_ok-from.from c.write_change-built.result c.write_change-built.new.nodes c.put-2.new.entries
    c.in_ok-from.ensures.room.0 c.in_ok-from.ensures.room.1 c.in_ok-from.ensures.free c.write_change-built.ensures.any.bounds.within c.write_change-built.auto.nodes c.write_change-built.ensures.free_only
    (change_early (leb (version_limit (tables_of c.args.nodes.now c.args.used c.args.versions.now c.args.count)) c.args.count) c.args.place (length c.args.row.now)) c.in_ok-from.ensures.ends refl (λ none. let l = change_passed (leb (version_limit (tables_of c.args.nodes.now c.args.used c.args.versions.now c.args.count)) c.args.count) c.args.place (length c.args.row.now) c.in_ok-from.from none in (omega arith, (l.some, l.most)))
    c.walked.result c.in_ok-put.field-0 c.put-2.ensures (ap (λ v. v.parent) c.walked.ensures) (ap (λ v. v.edit) c.walked.ensures) (ap (λ v. v.place) c.walked.ensures)
    (ap (λ v. v.level) c.walked.ensures ∙ c.default.ensures.1.1.1.0) (ap (λ v. v.written) c.walked.ensures) (ap (λ v. v.block) c.walked.ensures ∙ c.block_of-block.ensures.number) (record { did = c.in_ok-put.ensures; taken = law })

pub returns-clause-law : goal.returns-clause-law
returns-clause-law g c = λ es st.
    let law = g.met.S.BlockStore.lawful _ _ _ _ c.in_ok-put.ensures in
    answered g.Q.Summary.means g.S.BlockStore _ _ _ c.args.base c.args.place c.args.row.now c.in_ok-from.from
    c.in_ok-put.field-0 c.block_of-block.result c.write_change-built.new.nodes c.write_change-built.result.root c.write_change-built.result.used c.blocks_in-blocks.result c.readings_in-readings.result
    es st (c.in_ok-from.ensures.looked es st.tables) law c.block_of-block.ensures c.write_change-built.ensures.free_only (c.write_change-built.ensures.changed (omega arith)) c.write_change-built.auto.nodes
    c.blocks_in-blocks.ensures c.readings_in-readings.ensures c.in_ok-from.ensures.room.0 c.put-2.new.entries (rw c.default.ensures.1.1.1.0 at (c.put-2.ensures ∙ ap (set c.args.versions.now c.args.count) c.walked.ensures))
