-- `flonum::rounding::rounded_down` meets its contract. Assumes nothing.
use Rattle.std.proofs.Common.{◌∙◌}
use Rattle.flonum.proofs.Values.{above_minus_one, below-2-64, truncated}
use Rattle.flonum.proofs.rounding.rounded_down.Goals as goal

pub truncating_f64_to_u64-requires : goal.truncating_f64_to_u64-requires
truncating_f64_to_u64-requires c = record { lower_bound = above_minus_one c.args.a c.requires; upper_bound = below-2-64 c.args.a c.requires }

pub returns : goal.returns
returns c = c.truncating_f64_to_u64.ensures ∙ truncated c.args.a c.requires
