use Rattle.std.proofs.Common.{◌≡◌, ◌<◌, ◌^◌, length, drop, None}
use Rattle.symbol_map.specs.Scale.{scale_of}
use Rattle.soft_costs.specs.Softening.{factors_of, too_large_at}
use Rattle.soft_costs.proofs.scale.factors.Given as goal

abbrev pub invariant-loop-i : goal.invariant-loop-i
invariant-loop-i l = record {
  len : length l.factors.items ≡ length l.levels;
  done : drop l.i l.factors.items ≡ factors_of (drop l.i l.levels);
  top : l.top ≡ scale_of (drop l.i l.levels);
  above : 0 < l.top;
  below : l.top < 2 ^ 63;
  fits : too_large_at (drop l.i l.levels) ≡ None;
}
