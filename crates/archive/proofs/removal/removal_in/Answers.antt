use Rattle.std.proofs.Common.{leb, set, ap, ◌∙◌, refl, arith}
use Rattle.archive.specs.Calling as asked
use Rattle.archive.specs.Refusals.{change_early}
use Rattle.archive.specs.Stands.{tables_of, version_limit}
use Rattle.archive.proofs.Removals.{answered}
use Rattle.archive.proofs.Kept.{done_by}
use Rattle.archive.proofs.removal.removal_in.Goals as goal

pub returns-clause-left : goal.returns-clause-left
returns-clause-left g c =
    let t = (tables_of c.args.nodes.now c.args.used c.args.versions.now c.args.count) in
    let walk = c.write_removal-built in
    done_by g.Q.Summary.means g.S.BlockStore t c.args.store.now c.args.store.now (asked.Asked.removal c.args.base c.args.place) c.in_ok-from.from walk.result walk.new.nodes c.put.new.entries
    c.in_ok-from.ensures.room.0 c.in_ok-from.ensures.room.1 c.in_ok-from.ensures.free walk.ensures.any.bounds.within walk.auto.nodes walk.ensures.free_only
    (change_early (leb (version_limit (tables_of c.args.nodes.now c.args.used c.args.versions.now c.args.count)) c.args.count) c.args.place 1) c.in_ok-from.ensures.ends refl (λ none. (omega arith, tt))
    c.walked.result 0 c.put.ensures (ap (λ v. v.parent) c.walked.ensures) (ap (λ v. v.edit) c.walked.ensures) (ap (λ v. v.place) c.walked.ensures)
    (ap (λ v. v.level) c.walked.ensures ∙ c.default.ensures.1.1.1.0) (ap (λ v. v.written) c.walked.ensures) (ap (λ v. v.block) c.walked.ensures ∙ c.default.ensures.1.1.1.1.0) (refl, refl)

pub returns-clause-law : goal.returns-clause-law
returns-clause-law g c = λ es st.
    answered g.Q.Summary.means g.S.BlockStore.rows _ _ c.args.base c.args.place c.in_ok-from.from
    c.write_removal-built.new.nodes c.write_removal-built.result.root c.write_removal-built.result.used c.blocks_in-blocks.result c.readings_in-readings.result
    es st (c.in_ok-from.ensures.looked es st.tables) c.write_removal-built.ensures.free_only (c.write_removal-built.ensures.removed (omega arith)) c.write_removal-built.auto.nodes
    c.blocks_in-blocks.ensures c.readings_in-readings.ensures c.put.new.entries (rw (c.default.ensures.1.1.1.0, c.default.ensures.1.1.1.1.0) at (c.put.ensures ∙ ap (set c.args.versions.now c.args.count) c.walked.ensures))
