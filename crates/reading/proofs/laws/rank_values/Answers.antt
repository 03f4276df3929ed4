use Rattle.reading.proofs.Values.{rank_values, nan_by_fields}
use Rattle.reading.proofs.laws.rank_values.Goals as goal

pub returns : goal.returns
returns c = record { fields = nan_by_fields; ranks = rank_values }
