use Rattle.runs.proofs.Outputs.{spanned}
use Rattle.runs.proofs.steps.span_into.Goals as goal

pub returns : goal.returns
returns g c =
    spanned g.Q.Summary.means g.S.BlockStore _ c.args.version c.args.a c.args.b c.args.to c.min-at.result c.args.out.now c.span.new.out c.span.result c.min-at.ensures
    c.span.ensures.ends c.span.ensures.left c.span.ensures.law
