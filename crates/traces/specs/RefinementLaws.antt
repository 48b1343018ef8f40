-- Laws: the list during a pass is a zipper; a trial from a picture of the shapes before j, and the totals that need no drawing. Over any shapes, pictures, drawing and total.
use Rattle.std.specs.Prelude.{◌≡◌, Bool, ◌||◌, eqb, Float, length, take, drop, get_or, Option, None, Some}
use Rattle.std.proofs.Math.Path.{refl, sym, ap, subst}
use Rattle.std.proofs.Common.{◌∙◌, eq-eqb, ne_eqb, lt-ltb, le-ltb, length-drop, take-append-drop, length-take-le}
use Rattle.std.proofs.Math.Bool.{true, false, cond}
use mathlib.Core.List.{List, [], ◌∷◌, ◌++◌, append_assoc, append-nil}
use Prim.Native.Nat.{ℕ, zero, suc, ◌+◌, ◌≤◌, ◌<◌}
use native.Mathlib.Omega.{arith}
use Rattle.std.proofs.Math.Dec.{ltb}
use Rattle.std.proofs.Math.ListN.{length-append}
use Rattle.std.proofs.lemmas.List.{get_or_at}
use Rattle.laws.specs.Without.{without}
use Rattle.laws.specs.WithoutLaws.{without_seam}
use Rattle.laws.specs.InOrder.{InOrder, done}
use Rattle.laws.specs.InOrderLaws.{keep_last, leave_last}
use Rattle.traces.specs.Refinement.{Scene, painted_on, drawn, lower, Outcome, no_candidate, not_lower, accepted, trial, Progress, after, next, nexts, begun, pass, passes, nothing_yet, refined}

-- ---- one trial more
pub nexts-more : {S P : Type 0} (g : Scene S P) (n : ℕ) (a : Progress S) → nexts g (suc n) a ≡ next g (nexts g n a)
unfolding nexts
nexts-more g zero a = refl
nexts-more g (suc n) a = nexts-more g n (next g a)

-- ---- the zipper: after i trials of a pass that began at b the list is the kept shapes, the untried rest and the accepted candidates, and j stands behind the kept ones
pub record Zipped {S : Type 0} (b : Progress S) (i : ℕ) (a : Progress S) : Type 0 where
  pub kept : List S
  pub taken : List S
  pub list : a.list ≡ kept ++ (drop i b.list ++ taken)
  pub place : a.place ≡ length kept
  pub in_order : InOrder kept (take i b.list)
  pub tried : length kept + length taken ≡ i
  pub passes : a.passes ≡ b.passes
  pub trials : a.trials ≡ b.trials + i
  pub acceptances : a.acceptances ≡ b.acceptances + length taken

module _ {S : Type 0} where
  -- the shape that trial i of a pass tries
  record Tried (l : List S) (i : ℕ) : Type 0 where
    shape : S
    rest : drop i l ≡ shape ∷ drop (suc i) l
    so_far : take (suc i) l ≡ take i l ++ (shape ∷ [])

  tried_at : (l : List S) (i : ℕ) → i < length l → Tried l i
  tried_at [] i h = absurd (omega arith)
  tried_at (s ∷ l) zero h = record { shape = s; rest = refl; so_far = refl }
  tried_at (s ∷ l) (suc i) h =
      let t = tried_at l i (omega arith) in
      record { shape = t.shape; rest = t.rest; so_far = ap (λ (r : List S). s ∷ r) t.so_far }

  module _ (b : Progress S) (i : ℕ) (a : Progress S) (z : Zipped b i a) (h : i < length b.list) where
    -- no acceptance
    risen : (c : Progress S) → c.list ≡ a.list → c.place ≡ a.place + 1 → c.passes ≡ a.passes → c.trials ≡ a.trials + 1 → c.acceptances ≡ a.acceptances
        → Zipped b (suc i) c
    risen c l p q t n =
        let s = tried_at b.list i h in
        record {
          kept = z.kept ++ (s.shape ∷ []);
          taken = z.taken;
          list =
              l ∙ z.list
              ∙ ap (λ (r : List S). z.kept ++ (r ++ z.taken)) s.rest
              ∙ sym (append_assoc z.kept (s.shape ∷ []) (drop (suc i) b.list ++ z.taken));
          place = p ∙ simp (z.place, length-append);
          in_order = subst (λ (r : List S). InOrder (z.kept ++ (s.shape ∷ [])) r) (sym s.so_far) (keep_last s.shape z.in_order);
          tried = simp length-append (omega (arith, z.tried));
          passes = q ∙ z.passes;
          trials = omega (arith, t, z.trials);
          acceptances = n ∙ z.acceptances;
        }

    pub zip_after : (o : Outcome S) → Zipped b (suc i) (after o a)
    unfolding after
    zip_after no_candidate = risen (after no_candidate a) refl refl refl refl refl
    zip_after not_lower = risen (after not_lower a) refl refl refl refl refl
    zip_after (accepted c) =
        let s = tried_at b.list i h in
        record {
          kept = z.kept;
          taken = z.taken ++ (c ∷ []);
          list =
              ap (λ (r : List S). without a.place r ++ (c ∷ [])) (z.list ∙ ap (λ (r : List S). z.kept ++ (r ++ z.taken)) s.rest)
              ∙ ap (λ (r : List S). r ++ (c ∷ [])) (without_seam z.kept s.shape (drop (suc i) b.list ++ z.taken) a.place z.place)
              ∙ append_assoc z.kept (drop (suc i) b.list ++ z.taken) (c ∷ [])
              ∙ ap (λ (r : List S). z.kept ++ r) (append_assoc (drop (suc i) b.list) z.taken (c ∷ []));
          place = z.place;
          in_order = subst (λ (r : List S). InOrder z.kept r) (sym s.so_far) (leave_last s.shape z.in_order);
          tried = simp length-append (omega (arith, z.tried));
          passes = z.passes;
          trials = omega (arith, z.trials);
          acceptances = simp length-append (omega (arith, z.acceptances));
        }

module _ {S P : Type 0} (g : Scene S P) (b : Progress S) (p : b.place ≡ 0) where
  pub zipped : (i : ℕ) → i ≤ length b.list → Zipped b i (nexts g i b)
  unfolding nexts next
  zipped zero h = record { kept = []; taken = []; list = sym (append-nil b.list); place = p; in_order = done; tried = refl; passes = refl; trials = omega arith; acceptances = omega arith }
  zipped (suc i) h =
      subst (λ (a : Progress S). Zipped b (suc i) a) (sym (nexts-more g i b))
      (let a = nexts g i b in zip_after b i a (zipped i (omega arith)) h (trial g a.list a.place (g.candidate a.trials)).outcome)

module _ {S : Type 0} {b : Progress S} {i : ℕ} {a : Progress S} (z : Zipped b i a) where
  -- the length never changes
  pub zip_length : i ≤ length b.list → length a.list ≡ length b.list
  zip_length h =
      ap length z.list ∙ simp (length-append, length-drop) (omega (arith, z.tried))

  -- j is a place of the list
  pub zip_place : i < length b.list → a.place < length a.list
  zip_place h = omega (arith, zip_length (omega arith), z.place, z.tried)

  -- trial i tries shape i of the list that the pass began with
  pub zip_tries : (d : S) → i < length b.list → get_or a.list a.place d ≡ get_or b.list i d
  zip_tries d h =
      let s = tried_at b.list i h in
      ap (λ (l : List S). get_or l a.place d) (z.list ∙ ap (λ (r : List S). z.kept ++ (r ++ z.taken)) s.rest)
      ∙ get_or_at z.kept s.shape (drop (suc i) b.list ++ z.taken) d a.place (sym z.place)
      ∙ sym (ap (λ (l : List S). get_or l i d) (sym (take-append-drop i b.list) ∙ ap (λ (r : List S). take i b.list ++ r) s.rest) ∙ get_or_at (take i b.list) s.shape (drop (suc i) b.list) d i (length-take-le i b.list (omega arith)))

-- ---- a pass
pub pass_zipped : {S P : Type 0} (g : Scene S P) (a : Progress S) → Zipped (begun a) (length a.list) (pass g a)
unfolding pass begun
pass_zipped g a = zipped g (begun a) refl (length a.list) (omega arith)

pub pass-length : {S P : Type 0} (g : Scene S P) (a : Progress S) → length (pass g a).list ≡ length a.list
unfolding begun
pass-length g a = zip_length (pass_zipped g a) (omega arith)

-- ---- passes
module _ {S P : Type 0} (g : Scene S P) where
  pub passes-last : (p : ℕ) (a : Progress S) → (pass g a).acceptances ≡ a.acceptances → passes g (suc p) a ≡ pass g a
  unfolding passes
  passes-last p a e = ap (λ (b : Bool). cond b (pass g a) (passes g p (pass g a))) (eq-eqb (pass g a).acceptances a.acceptances e)

  pub passes-more : (p : ℕ) (a : Progress S) → ((pass g a).acceptances ≡ a.acceptances → ⊥) → passes g (suc p) a ≡ passes g p (pass g a)
  unfolding passes
  passes-more p a n = ap (λ (b : Bool). cond b (pass g a) (passes g p (pass g a))) (ne_eqb (pass g a).acceptances a.acceptances n)

  -- with fewer than two shapes as with 0 passes
  pub refined_short : (p : ℕ) (l : List S) → length l < 2 → refined g p l ≡ passes g 0 (nothing_yet l)
  unfolding refined passes
  refined_short p l h = ap (λ (b : Bool). cond (eqb p 0 || b) (nothing_yet l) (passes g p (nothing_yet l))) (lt-ltb (length l) 2 h) ∙ either (eqb p 0)
    where
      either : (b : Bool) → cond (b || true) (nothing_yet l) (passes g p (nothing_yet l)) ≡ nothing_yet l
      either true = refl
      either false = refl

  pub refined_long : (p : ℕ) (l : List S) → 2 ≤ length l → refined g p l ≡ passes g p (nothing_yet l)
  unfolding refined passes
  refined_long zero l h = refl
  refined_long (suc p) l h =
      ap (λ (b : Bool). cond (b || ltb (length l) 2) (nothing_yet l) (passes g (suc p) (nothing_yet l))) (ne_eqb (suc p) 0 (λ e. omega arith))
      ∙ ap (λ (b : Bool). cond b (nothing_yet l) (passes g (suc p) (nothing_yet l))) (le-ltb (length l) 2 h)

-- ---- drawing
pub painted-append : {S P : Type 0} (paint : S → P → P) (p : P) (k l : List S) → painted_on paint p (k ++ l) ≡ painted_on paint (painted_on paint p k) l
unfolding painted_on
painted-append paint p [] l = refl
painted-append paint p (s ∷ k) l = painted-append paint (paint s p) k l

module _ {S P : Type 0} (g : Scene S P) where
  -- from a picture of the shapes before j
  pub drawn_without : (l : List S) (j : ℕ) → drawn g (without j l) ≡ painted_on g.paint (drawn g (take j l)) (drop (suc j) l)
  unfolding without
  drawn_without l j = painted-append g.paint g.background (take j l) (drop (suc j) l)

  -- after an acceptance the list drawn is the picture of the trial, and so old is new
  pub drawn_exchanged : (l : List S) (j : ℕ) (s : S) → drawn g (without j l ++ (s ∷ [])) ≡ g.paint s (drawn g (without j l))
  unfolding painted_on
  drawn_exchanged l j s = painted-append g.paint g.background (without j l) (s ∷ [])

-- ---- a trial from its two totals
module _ {S P : Type 0} (g : Scene S P) (a : Progress S) where
  pub next-none : g.candidate a.trials ≡ None → next g a ≡ after no_candidate a
  unfolding next trial
  next-none e = ap (λ (o : Option S). after (trial g a.list a.place o).outcome a) e

  module _ (s : S) (old new : Float) (c : g.candidate a.trials ≡ Some s) (o : old ≡ g.total (drawn g a.list)) (n : new ≡ g.total (g.paint s (drawn g (without a.place a.list)))) where
    judged : (b : Bool) → lower new old ≡ b → next g a ≡ after (cond b (accepted s) not_lower) a
    unfolding next trial
    judged b l =
        ap (λ (o : Option S). after (trial g a.list a.place o).outcome a) c
        ∙ ap (λ (b : Bool). after (cond b (accepted s) not_lower) a) (ap (λ (x : Float). lower x (g.total (drawn g a.list))) (sym n) ∙ ap (λ (x : Float). lower new x) (sym o) ∙ l)

    pub next-kept : lower new old ≡ false → next g a ≡ after not_lower a
    next-kept l = judged false l

    pub next-taken : lower new old ≡ true → next g a ≡ after (accepted s) a
    next-taken l = judged true l
