use Rattle.std.proofs.Common.{◌≡◌, of_calls, length, take, Err, sym, refl, subst}
use Rattle.archive.specs.Calling.{archive_of}
use Rattle.journal.specs.Format.{coding}
use Rattle.journal.specs.Records.{RecordRead}
use Rattle.journal.specs.Taking.{OneTaken}
use Rattle.journal.proofs.Refusals.{handed_on, value_told, refusal_told}
use Rattle.journal.proofs.LoadTaking.{record_stops, row_stops, entry_sent}
use Rattle.journal.proofs.loading.taking.take_in.Goals as goal

pub returns-in_err-step-clause-taken : goal.returns-in_err-step-clause-taken
returns-in_err-step-clause-taken g c =
    let k = coding g.S.Reading.Reading in
    let s = archive_of c.args.table.now c.args.versions.now c.args.store.now in
    let one = refusal_told (RecordRead c.args.bytes.now c.args.at (length c.args.area.now)) _ c.opening_at.result c.map_err.result c.opening_at.ensures c.map_err.ensures.cases c.in_err-step.field-0.0 c.in_err-step.was in
    handed_on (λ r. OneTaken g.Q.Summary.means g.S.BlockStore k s c.args.area.now c.args.bytes.now c.args.at r s c.args.area.now) c.in_err-step.field-0.0 c.from_residual.result c.from_residual.ensures.1
    (let p = one.2 in
    let made : c.in_err-step.field-0.0 ≡ record { fault = one.0; place = c.args.at } = search of_calls in
    subst (λ f. OneTaken g.Q.Summary.means g.S.BlockStore k s c.args.area.now c.args.bytes.now c.args.at (Err f) s c.args.area.now) (sym made)
    (record_stops g.Q.Summary.means g.S.BlockStore k s c.args.area.now c.args.bytes.now c.args.at one.0 one.1))

pub returns-in_err-end-clause-taken : goal.returns-in_err-end-clause-taken
returns-in_err-end-clause-taken g c =
    let k = coding g.S.Reading.Reading in
    let s = archive_of c.args.table.now c.args.versions.now c.args.store.now in
    let there = value_told (RecordRead c.args.bytes.now c.args.at (length c.args.area.now)) _ c.opening_at.result c.map_err.result c.opening_at.ensures c.map_err.ensures.cases c.in_ok-step.field-0 c.in_ok-step.was in
    handed_on (λ r. OneTaken g.Q.Summary.means g.S.BlockStore k s c.args.area.now c.args.bytes.now c.args.at r s c.read_row.new.area) c.in_err-end.field-0.0 c.from_residual-in_err-end.result c.from_residual-in_err-end.ensures.1
    (row_stops g.Q.Summary.means g.S.BlockStore k s c.args.area.now c.args.bytes.now c.args.at c.in_ok-step.field-0 there c.read_row.new.area c.in_err-end.field-0.0 c.in_err-end.ensures)

pub returns-clause-taken : goal.returns-clause-taken
returns-clause-taken g c =
    let k = coding g.S.Reading.Reading in
    let s = archive_of c.args.table.now c.args.versions.now c.args.store.now in
    let t = archive_of c.send-answer.new.table c.send-answer.new.versions c.send-answer.new.store in
    let o = c.in_ok-step.field-0 in
    let row = take o.count c.read_row.new.area in
    let there = value_told (RecordRead c.args.bytes.now c.args.at (length c.args.area.now)) _ c.opening_at.result c.map_err.result c.opening_at.ensures c.map_err.ensures.cases o c.in_ok-step.was in
    subst (λ r. OneTaken g.Q.Summary.means g.S.BlockStore k s c.args.area.now c.args.bytes.now c.args.at r t c.read_row.new.area) (sym c.ended.ensures)
    (entry_sent g.Q.Summary.means g.S.BlockStore k s c.args.area.now c.args.bytes.now c.args.at o there c.read_row.new.area c.in_ok-end.end c.in_ok-end.ensures row refl t c.send-answer.result c.send-answer.ensures.kept c.send-answer.ensures.law)
