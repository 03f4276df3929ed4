use Rattle.std.proofs.Common.{Some, None}
use Rattle.std.proofs.lemmas.Bool.{both_ways}
use Rattle.sharing.specs.Remembering.{remembered}
use Rattle.sharing.proofs.Finding.{first_none, first_here, first_later, first_sized}
use Rattle.sharing.proofs.sharing.layer.find.Goals as goal

pub returns-in_err-block : goal.returns-in_err-block
returns-in_err-block g c = rw c.from_residual.ensures (first_sized (g.S.BlockStore.rows c.args.store.now) c.args.row.now c.args.recent.now None c.is_sized.result c.is_sized.ensures c.if-not-is_sized.false
    (c.loop-age.invariant None (first_none (g.S.BlockStore.rows c.args.store.now) c.args.row.now (remembered c.args.recent.now) c.loop-age.age c.in_err-block.ensures)))

pub returns-then-same_row : goal.returns-then-same_row
returns-then-same_row g c = first_sized (g.S.BlockStore.rows c.args.store.now) c.args.row.now c.args.recent.now (Some c.in_ok-block.block) c.is_sized.result c.is_sized.ensures c.if-not-is_sized.false
    (c.loop-age.invariant (Some c.in_ok-block.block) (first_here (g.S.BlockStore.rows c.args.store.now) c.args.row.now (remembered c.args.recent.now) c.loop-age.age c.in_ok-block.block c.in_ok-block.ensures (c.same_row.ensures.0 c.if-same_row.true)))

pub loop-age-preserved : goal.loop-age-preserved
loop-age-preserved g c =
    λ r f. c.loop-age.invariant r (first_later (g.S.BlockStore.rows c.args.store.now) c.args.row.now (remembered c.args.recent.now) c.loop-age.age c.in_ok-block.block r c.in_ok-block.ensures (λ e. both_ways c.same_row.result c.if-same_row.false (c.same_row.ensures.1 e)) f)
