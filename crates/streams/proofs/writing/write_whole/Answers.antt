use Rattle.std.proofs.Common.{◌-◌, ◌++◌, length, take, drop, sym, ap, subst, ◌∙◌, arith, length-take}
use lib.Seq.{take-add, take-take}
use Rattle.std.specs.Io.KnownBytes.{Appends}
use Rattle.std.proofs.KnownBytes.{Appends-trans}
use Rattle.streams.proofs.writing.write_whole.Goals as goal

pub loop-done-preserved : goal.loop-done-preserved
loop-done-preserved g c =
    let done = c.loop-done.done in
    let n = c.in_ok-n.n in
    let xs = c.args.bytes.now in
    let left = length xs - done in
    let fits = c.in_ok-n.ensures.bound in
    let most = length-take left (drop done xs) in
    let joined = ap (λ l. take done xs ++ l) (take-take n left (drop done xs) (omega arith)) ∙ sym (take-add done n xs) in
    record {
      within = omega arith;
      added = subst (Appends _ _) joined (Appends-trans _ _ _ _ _ c.loop-done.invariant.added c.in_ok-n.ensures.ok);
    }
