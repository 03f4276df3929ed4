use Rattle.reading.proofs.Values.{rank_values}
use Rattle.summary.proofs.Values.{summary_values}
use Rattle.flexlist.proofs.Values.{shape_values}
use Rattle.nodes.proofs.worked.worked_values.Goals as goal

pub returns : goal.returns
returns c = record { ranks = rank_values; summaries = summary_values; shapes = shape_values }
