use Rattle.std.proofs.Common.{◌∙◌, arith}
use Rattle.nodes.specs.Removing.{remove_at}
use Rattle.nodes.proofs.Arms.{walk_nothing}
use Rattle.nodes.proofs.Edges.{unseen, seen_there, any_walked, walk_past}
use Rattle.nodes.proofs.edits.write_removal.Goals as goal
use Rattle.nodes.proofs.edits.write_removal.Goals.{then-upto-eq0-via-then-upto-eq0, then-upto-eq0-via-else-upto-eq0+then-blocks_in-upto}

pub returns-then-is_none-clause-removed : goal.returns-then-is_none-clause-removed
returns-then-is_none-clause-removed g c some c' = walk_nothing g.Q.Summary.means c' remove_at c.args.upto (unseen _ _ c.is_none.ensures c.if-is_none.true ∙ c.view.ensures)

pub returns-then-upto-eq0-clause-removed : goal.returns-then-upto-eq0-clause-removed
returns-then-upto-eq0-clause-removed g c some =
    elim c.then-upto-eq0.branch [
      | then-upto-eq0-via-then-upto-eq0 w ↦ absurd (let none = w.if-upto-eq0.true in omega arith)
      | then-upto-eq0-via-else-upto-eq0+then-blocks_in-upto w ↦ (λ c'. walk_past g.Q.Summary.means c' remove_at c.args.upto w.blocks_in.ensures w.if-blocks_in-upto.true)
    ]

pub returns-clause-any : goal.returns-clause-any
returns-clause-any g c = any_walked _ (seen_there _ _ c.is_none.ensures c.if-is_none.false _ c.view.ensures) c.blocks_in.ensures c.if-blocks_in-upto.false c.remove.ensures.free_only c.remove.ensures.bounds c.remove.auto.nodes
