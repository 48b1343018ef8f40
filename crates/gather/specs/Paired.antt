-- Rules: the sums that the loops over pixels carry, which hold the numbers of `ShapeSums` in another order.
use Rattle.std.specs.Prelude.{◌≡◌}
use Rattle.sums.specs.declared.ShapeSums.{ShapeSums}
use Rattle.sums.specs.Sums.{three}
use Rattle.gather.specs.declared.points.Paired.{Paired}

unfoldable pub unpaired_of : Paired → ShapeSums
unpaired_of s = record {
  s_t = three s.t0 s.t1 s.t2;
  s_c = three s.c0 s.c1 s.c2;
  s_t2 = three s.tt0 s.tt1 s.tt2;
  s_c2 = three s.cc0 s.cc1 s.cc2;
  s_tc = three s.tc0 s.tc1 s.tc2;
  count = s.count;
}

abbrev pub UnpairedSays : Paired → ShapeSums → Type 0
UnpairedSays s r = r ≡ unpaired_of s
