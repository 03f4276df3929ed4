use Rattle.std.proofs.Common.{◌∙◌, sym, leb-true}
use Rattle.nodes.specs.Cutting.{insert_at}
use Rattle.nodes.proofs.Arms.{walk_nothing}
use Rattle.nodes.proofs.Edges.{unseen, walk_past, no_room, insert_made}
use Rattle.nodes.proofs.edits.write_insert.Goals as goal

pub returns-then-is_full-clause-inserted : goal.returns-then-is_full-clause-inserted
returns-then-is_full-clause-inserted g c c' n k = no_room g.Q.Summary.means c' (insert_at n c.args.level) (insert_made n c.args.level) c.args.upto (leb-true _ _ (sym c.is_full.ensures ∙ c.if-is_full.true))

pub returns-then-is_none-clause-inserted : goal.returns-then-is_none-clause-inserted
returns-then-is_none-clause-inserted g c c' n k = walk_nothing g.Q.Summary.means c' (insert_at n c.args.level) c.args.upto (unseen _ _ c.is_none.ensures c.if-is_none.true ∙ c.view.ensures)

pub returns-then-blocks_in-upto-clause-inserted : goal.returns-then-blocks_in-upto-clause-inserted
returns-then-blocks_in-upto-clause-inserted g c c' n k = walk_past g.Q.Summary.means c' (insert_at n c.args.level) c.args.upto c.blocks_in.ensures c.if-blocks_in-upto.true
