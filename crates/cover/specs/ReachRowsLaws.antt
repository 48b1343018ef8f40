-- Laws: the run of rows lies in the picture, and a row outside it has no covered pixel.
use Rattle.std.specs.Prelude.{◌≡◌, Bool, true, false, ◌⊎◌, ℕ, ◌+◌, ◌≤◌, ◌<◌, ℤ, pos, nat_abs, ◌-ℤ◌, ◌≤ℤ◌, ◌<ℤ◌}
use Rattle.std.proofs.Math.Path.{refl, sym, ap}
use Rattle.std.proofs.Common.{◌∙◌, subst, inl, inr, arith}
use Rattle.std.proofs.Math.Bool.{cond}
use Rattle.std.proofs.Math.Logic.{⊎_elim}
use Rattle.std.specs.Int.Signed.{le_z}
use Rattle.laws.specs.Parts.{zord, of-, one_zero}
use Rattle.laws.specs.Order.{≤ℤ-or-<ℤ}
use Rattle.laws.specs.Bools.{true_or_false, is_true}
use Rattle.laws.specs.Fit.{le_true, lt_true, of_abs}
use Rattle.laws.specs.Ends.{none, ends_of}
use Rattle.laws.specs.EndsLaws.{ended, ended_unique}
use Rattle.whole.specs.WholeLaws.{greater_high, greater_low, lesser_low, lesser_high}
use Rattle.cover.specs.declared.Kind.{Kind}
use Rattle.cover.specs.declared.reached.Rows.{Rows}
use Rattle.cover.specs.Cover.{covered, reach, lowest_row, highest_row}
use Rattle.cover.specs.ReachRows.{rows_of, turned, beside, no_rows, reach_rows, ReachRowsSays}
use Rattle.cover.specs.CoverLaws.{in_reach, in_columns}

pub ReachRowsSays-unique : (kind : Kind) (w h : ℕ) (r s : Rows) → ReachRowsSays kind w h r → ReachRowsSays kind w h s → r ≡ s
ReachRowsSays-unique kind w h r s p q = p ∙ sym q

-- the reach begins at row 0 or below it, and ends in the picture or above it
pub first_nonneg : (kind : Kind) (h : ℕ) → pos 0 ≤ℤ (reach kind h).first
unfolding reach
first_nonneg kind h =
    ⊎_elim
    (λ (c : lowest_row kind ≤ℤ pos 0). subst (λ (z : ℤ). pos 0 ≤ℤ z) (sym (greater_high (lowest_row kind) (pos 0) c)) (omega (arith, zord)))
    (λ (c : pos 0 <ℤ lowest_row kind). subst (λ (z : ℤ). pos 0 ≤ℤ z) (sym (greater_low (lowest_row kind) (pos 0) (omega (arith, zord)))) (omega (arith, zord)))
    (≤ℤ-or-<ℤ (lowest_row kind) (pos 0))

pub last-inside : (kind : Kind) (h : ℕ) → (reach kind h).last <ℤ pos h
unfolding reach
last-inside kind h =
    ⊎_elim
    (λ (c : highest_row kind ≤ℤ (pos h -ℤ pos 1)).
    subst (λ (z : ℤ). z <ℤ pos h) (sym (lesser_low (highest_row kind) (pos h -ℤ pos 1) c)) (omega (arith, zord, of- (pos h) (pos 1))))
    (λ (c : (pos h -ℤ pos 1) <ℤ highest_row kind).
    subst (λ (z : ℤ). z <ℤ pos h) (sym (lesser_high (highest_row kind) (pos h -ℤ pos 1) (omega (arith, zord)))) (omega (arith, zord, of- (pos h) (pos 1))))
    (≤ℤ-or-<ℤ (highest_row kind) (pos h -ℤ pos 1))

-- a row outside the reach, also in a picture of more rows than any
uncovered : (kind : Kind) (h y : ℕ) → y < h → (pos y <ℤ (reach kind h).first) ⊎ ((reach kind h).last <ℤ pos y) → (x : ℕ) → covered kind x y ≡ false
uncovered kind h y l out x =
    ⊎_elim
    (λ (t : covered kind x y ≡ true).
    let b = in_reach kind x y h l t in
    ⊎_elim (λ (o : pos y <ℤ (reach kind h).first). absurd (omega (arith, zord, b.0))) (λ (o : (reach kind h).last <ℤ pos y). absurd (omega (arith, zord, b.1))) out)
    (λ (n : covered kind x y ≡ false). n)
    (true_or_false (covered kind x y))

module _ (kind : Kind) (h : ℕ) where
  -- what the two ends are, by whether the reach is empty
  pub rows-some : (reach kind h).first ≤ℤ (reach kind h).last
      → ((rows_of kind h).top ≡ nat_abs (reach kind h).first) × ((rows_of kind h).bottom ≡ nat_abs (reach kind h).last + 1)
  unfolding rows_of
  rows-some g =
      (refl, ap (λ (b : Bool). cond b (nat_abs (reach kind h).last + 1) (nat_abs (reach kind h).first)) (is_true (le_z (reach kind h).first (reach kind h).last) g.le))

  pub rows_none : (reach kind h).last <ℤ (reach kind h).first
      → ((rows_of kind h).top ≡ nat_abs (reach kind h).first) × ((rows_of kind h).bottom ≡ nat_abs (reach kind h).first)
  unfolding rows_of
  rows_none g = (
    refl,
    ap (λ (b : Bool). cond b (nat_abs (reach kind h).last + 1) (nat_abs (reach kind h).first))
        (⊎_elim (λ (y : le_z (reach kind h).first (reach kind h).last ≡ true). absurd (omega (arith, zord, le_true (reach kind h).first (reach kind h).last y))) (λ (n : le_z (reach kind h).first (reach kind h).last ≡ false). n)
        (true_or_false (le_z (reach kind h).first (reach kind h).last))),
  )

module _ (kind : Kind) (w h : ℕ) where
  -- rows outside have no covered pixel; the others lie in the picture
  pub record Through (rows : Rows) : Type 0 where
    pub ordered : rows.top ≤ rows.bottom
    pub inside : (y : ℕ) → y < rows.bottom → rows.top ≤ y → y < h
    pub outside : (y : ℕ) → y < h → (y < rows.top) ⊎ (rows.bottom ≤ y) → ends_of (λ x. covered kind x y) w ≡ none

  -- a row without a covered pixel among its w
  bare : (y : ℕ) → ((x : ℕ) → x < w → covered kind x y ≡ false) → ends_of (λ x. covered kind x y) w ≡ none
  bare y o = ended_unique (λ x. covered kind x y) w (ends_of (λ x. covered kind x y) w) none (ended (λ x. covered kind x y) w) o

  through_rows : Through (rows_of kind h)
  through_rows =
      ⊎_elim
      (λ (g : (reach kind h).first ≤ℤ (reach kind h).last).
      let e = rows-some kind h g in
      let n = first_nonneg kind h in
      let i = last-inside kind h in
      record {
        ordered = omega (arith, zord, e.0, e.1, of_abs (reach kind h).first, of_abs (reach kind h).last, one_zero (reach kind h).first, one_zero (reach kind h).last);
        inside = λ y a b. omega (arith, zord, e.0, e.1, of_abs (reach kind h).first, of_abs (reach kind h).last, one_zero (reach kind h).first, one_zero (reach kind h).last);
        outside = λ y a o. bare y (λ x k. uncovered kind h y a (⊎_elim
            (λ (b : y < (rows_of kind h).top). inl (omega (arith, zord, e.0, of_abs (reach kind h).first, one_zero (reach kind h).first)))
            (λ (b : (rows_of kind h).bottom ≤ y). inr (omega (arith, zord, e.1, of_abs (reach kind h).last, one_zero (reach kind h).last))) o) x);
      })
      (λ (g : (reach kind h).last <ℤ (reach kind h).first).
      let e = rows_none kind h g in
      record {
        ordered = omega (arith, e.0, e.1);
        inside = λ y a b. absurd (omega (arith, e.0, e.1));
        outside = λ y a o. bare y (λ x k. uncovered kind h y a (⊎_elim
            (λ (b : pos y <ℤ (reach kind h).first). inl b)
            (λ (b : (reach kind h).first ≤ℤ pos y). inr (omega (arith, zord)))
            (flip (≤ℤ-or-<ℤ (reach kind h).first (pos y)))) x);
      })
      (≤ℤ-or-<ℤ (reach kind h).first (reach kind h).last)
    where
      flip : {A B : Type 0} → A ⊎ B → B ⊎ A
      flip (inl a) = inr a
      flip (inr b) = inl b

  -- beside the picture no pixel is covered
  off : beside kind w ≡ true → (x y : ℕ) → x < w → covered kind x y ≡ false
  unfolding beside
  off t x y k =
      ⊎_elim
      (λ (e : covered kind x y ≡ true).
      let b = in_columns kind x y w k e in
      absurd (omega (arith, zord, b.0, b.1, lt_true (reach (turned kind) w).last (reach (turned kind) w).first t)))
      (λ (n : covered kind x y ≡ false). n)
      (true_or_false (covered kind x y))

  pub rows-beside : beside kind w ≡ true → no_rows ≡ reach_rows kind w h
  unfolding reach_rows
  rows-beside t = sym (ap (λ (b : Bool). cond b no_rows (rows_of kind h)) t)

  pub rows_before : beside kind w ≡ false → rows_of kind h ≡ reach_rows kind w h
  unfolding reach_rows
  rows_before n = sym (ap (λ (b : Bool). cond b no_rows (rows_of kind h)) n)

  pub through : Through (reach_rows kind w h)
  through =
      ⊎_elim
      (λ (t : beside kind w ≡ true).
      subst Through (rows-beside t) (record {
        ordered = omega arith;
        inside = λ y a b. absurd (omega arith);
        outside = λ y a o. bare y (λ x k. off t x y k);
      }))
      (λ (n : beside kind w ≡ false). subst Through (rows_before n) through_rows)
      (true_or_false (beside kind w))
