use Rattle.std.proofs.Common.{List, map, take, ap, ◌∙◌}
use Rattle.sharing.specs.Remembering.{backwards}
use Rattle.sharing.specs.declared.recent.Entry.{Entry}
use Rattle.sharing.proofs.Turning.{turned, noted, length_backwards}
use Rattle.sharing.proofs.recent.Recent.write.Goals as goal

pub returns : goal.returns
returns c =
    let r = c.args.self.now in
    let x : Entry = record { block = c.args.block } in
    ap (λ (bs : List Entry). map (λ (e : Entry). e.block) (take c.min-self.result bs)) (turned r.entries r.next x r.whole r.turns)
    ∙ noted (λ (e : Entry). e.block) (backwards r.entries r.next) x r.held c.min-self.result c.args.most (length_backwards r.entries r.next r.whole r.turns) r.most c.requires.0 c.requires.1 c.min-self.ensures
