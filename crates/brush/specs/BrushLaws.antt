-- Laws: each promise has one answer; a pixel; a run in parts.
use Rattle.std.specs.Prelude.{◌≡◌, List, [], ◌∷◌, ℕ, ◌+◌, ◌-◌, ◌*◌, ◌≤◌, length, take, drop, get_or, set, Float}
use Rattle.std.proofs.Math.Path.{refl}
use Rattle.std.proofs.Common.{sym, ap, ◌∙◌, arith}
use Rattle.std.specs.Float.{nan}
use borrow.Rule.Slice.PartMut.{put_mid}
use Rattle.laws.specs.Fill.{fill, fill_none, fill-all, length-fill, sets_end}
use Rattle.laws.specs.Tab.{tab}
use Rattle.laws.specs.Strokes.{stroked}
use Rattle.laws.specs.StrokeLaws.{length-stroked, stroked-part, fill-part, fill-put}
use Rattle.brush.specs.declared.Brush.{Brush}
use Rattle.brush.specs.Brushes.{mixed, brushed, BrushOfSays, BlendRunSays}

pub BrushOfSays-unique : (opacity red green blue : Float) (r s : Brush) → BrushOfSays opacity red green blue r → BrushOfSays opacity red green blue s → r ≡ s
BrushOfSays-unique opacity red green blue r s p q = p ∙ sym q

pub BlendRunSays-unique : (b : Brush) (old new also : List Float) → BlendRunSays b old new → BlendRunSays b old also → new ≡ also
BlendRunSays-unique b old new also p q = p ∙ sym q

module _ (b : Brush) where
  -- three stores are a pixel
  pub pixel : (p : List Float) → length p ≡ 3
      → set (set (set p 0 (mixed b 0 (get_or p 0 nan))) 1 (mixed b 1 (get_or p 1 nan))) 2 (mixed b 2 (get_or p 2 nan)) ≡ brushed b p
  unfolding stroked tab
  pixel p e = sets_end (mixed b 0 (get_or p 0 nan) ∷ mixed b 1 (get_or p 1 nan) ∷ mixed b 2 (get_or p 2 nan) ∷ []) p 0 e ∙ rw e refl

-- ---- a run from the front: q pixels are done
pub record Done (b : Brush) (old : List Float) (q : ℕ) (now : List Float) : Type 0 where
  pub so_far : now ≡ fill old (brushed b old) (q * 3)
  pub long : length now ≡ length old

module _ {b : Brush} {old : List Float} where
  pub done_none : Done b old 0 old
  done_none = record { so_far = fill_none old (brushed b old); long = refl }

  -- the pixels up to p were lent, `&mut now[a..e]`, and came back brushed
  pub done_more : {now r : List Float} {q : ℕ} (p a e : ℕ) → Done b old q now → a ≡ q * 3 → e ≡ p * 3 → a ≤ e → e ≤ length old → r ≡ brushed b (take (e - a) (drop a now))
      → Done b old p (put_mid a (e - a) now r)
  done_more {now} {r} {q} p a e s f g h l t =
      let same = sym (length-stroked nan (mixed b) old) in
      let k : q * 3 + (e - q * 3) ≤ length (brushed b old) = omega (arith, same) in
      let m : q * 3 + (e - q * 3) ≡ p * 3 = omega arith in
      let n : r ≡ take (e - q * 3) (drop (q * 3) (brushed b old)) =
      rw (f, s.so_far) at t ∙ ap (brushed b) (fill-part old (brushed b old) (q * 3) (e - q * 3) same k) ∙ stroked-part nan (mixed b) old q (e - q * 3) (omega arith) in
      let d : put_mid a (e - a) now r ≡ fill old (brushed b old) (p * 3) = rw (f, s.so_far) (fill-put old (brushed b old) r (q * 3) (e - q * 3) same k n ∙ ap (fill old (brushed b old)) m) in
      record { so_far = d; long = ap length d ∙ length-fill old (brushed b old) (p * 3) (omega (arith, same)) same ∙ sym same }

  pub done_all : {now : List Float} {q : ℕ} → Done b old q now → length old ≤ q * 3 → now ≡ brushed b old
  done_all {now} {q} s h =
      let same = sym (length-stroked nan (mixed b) old) in
      s.so_far ∙ fill-all old (brushed b old) (q * 3) same (omega (arith, same))
