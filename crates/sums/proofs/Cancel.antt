-- Records of sums are equal where the same sums were added to both and made them equal.
use Rattle.std.proofs.Common.{◌≡◌, arith}
use Rattle.sums.specs.declared.totals.Totals.{Totals}
use Rattle.sums.specs.Sums.{both}

pub cancel : (u v p : Totals) → both u p ≡ both v p → u ≡ v
cancel u v p h = grind arith
