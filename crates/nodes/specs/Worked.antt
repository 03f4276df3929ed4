-- All worked values of the rules, of one another's definitions, under one statement. Assumes nothing.
use Rattle.reading.specs.Values.{RankValues}
use Rattle.summary.specs.Values.{SummaryValues}
use Rattle.flexlist.specs.Values.{ShapeValues}

pub record WorkedValues : Type 0 where
  -- the ranks of 1.0, −1.0 and +infinity, and that it is present
  pub ranks : RankValues
  -- a peak after a missing count, and a swing across one
  pub summaries : SummaryValues
  -- the FlexLists of short lists of levels, and what an insert and two removals write
  pub shapes : ShapeValues
