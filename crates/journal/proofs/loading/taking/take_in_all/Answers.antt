use Rattle.std.proofs.Common.{◌∙◌}
use Rattle.archive.specs.Calling.{archive_of}
use Rattle.journal.specs.Format.{coding}
use Rattle.journal.specs.Loading.{Loads}
use Rattle.journal.proofs.Refusals.{handed_on}
use Rattle.journal.proofs.LoadAll.{so_far_more, so_far_whole, so_far_stopped}
use Rattle.journal.proofs.loading.taking.take_in_all.Goals as goal

pub loop-at-preserved : goal.loop-at-preserved
loop-at-preserved g c = (
  so_far_more g.Q.Summary.means g.S.BlockStore (coding g.S.Reading.Reading) (archive_of c.args.table.now c.args.versions.now c.args.store.now) (archive_of c.loop-at.table c.loop-at.versions c.loop-at.store) (archive_of c.take_in.new.table c.take_in.new.versions c.take_in.new.store) c.args.area.now c.loop-at.area c.take_in.new.area c.args.bytes.now c.loop-at.at c.in_ok-at.at c.loop-at.invariant.0 c.in_ok-at.ensures.taken,
  c.take_in.ensures.same_slice ∙ c.loop-at.invariant.1,
)

pub returns-in_err-at-clause-law : goal.returns-in_err-at-clause-law
returns-in_err-at-clause-law g c = λ h st.
    let k = coding g.S.Reading.Reading in
    let s = archive_of c.args.table.now c.args.versions.now c.args.store.now in
    let u = archive_of c.take_in.new.table c.take_in.new.versions c.take_in.new.store in
    handed_on (λ r. Loads g.Q.Summary.means g.S.BlockStore k h s c.args.area.now c.args.bytes.now r u c.take_in.new.area) c.in_err-at.field-0.0 c.from_residual-in_err-at.result c.from_residual-in_err-at.ensures.1
    (so_far_stopped g.Q.Summary.means g.S.BlockStore k s (archive_of c.loop-at.table c.loop-at.versions c.loop-at.store) c.args.area.now c.loop-at.area c.args.bytes.now c.loop-at.at c.loop-at.invariant.0 h st c.in_err-at.field-0.0 u c.take_in.new.area c.in_err-at.ensures.taken)

pub returns-clause-law : goal.returns-clause-law
returns-clause-law g c = λ h st.
    so_far_whole g.Q.Summary.means g.S.BlockStore (coding g.S.Reading.Reading) (archive_of c.args.table.now c.args.versions.now c.args.store.now) (archive_of c.loop-at.table c.loop-at.versions c.loop-at.store) c.args.area.now c.loop-at.area c.args.bytes.now c.loop-at.at c.loop-at.invariant.0 h st c.count.result c.loop-at-test.false c.count.ensures
