-- Laws: one step of the running state, request by request; what is held after it; two steps that meet the promise are equal.
use Rattle.std.specs.Prelude.{◌≡◌, Bool, not, ◌||◌, List, [], ◌∷◌, ◌++◌, map, ℕ, ◌+◌, ◌-◌, ◌*◌, ◌≤◌, ◌<◌, T, ltb, length, take, drop, Float}
use Rattle.std.proofs.Math.Path.{refl, ap}
use Rattle.std.proofs.Common.{sym, ◌∙◌, subst, mul-le-mul, arith, length-append, length-drop, take_at, drop_at, length-take-le}
use Rattle.std.proofs.Math.Bool.{true, false, cond}
use Rattle.std.proofs.Math.Nat.{sub-zero}
use borrow.Author.Tests.{le-leb, lt-leb, eq-eqb, ne_eqb, eqb-true, eqb-false, ltb-false}
use Rattle.std.proofs.Math.Dec.{eqb}
use Rattle.std.specs.Float.Ieee.{binary32, of_bits, to_bits}
use Rattle.std.specs.Float.{binary64}
use Rattle.laws.specs.Bools.{or_left, or_right}
use Rattle.laws.specs.Rows.{put_row}
use Rattle.refusal.specs.Refusals.{lowest, size_if, place_if, opacity_if}
use Rattle.refusal.specs.RefusalLaws.{lowest_skip, lowest-take, lowest-empty, lowest-none}
use Rattle.float.specs.Within.{nought, within, all_within}
use Rattle.cover.specs.declared.Kind.{Kind}
use Rattle.cover.specs.Cover.{bad_places}
use Rattle.grade.specs.declared.Score.{Score}
use Rattle.refusal.specs.Outcomes as scored
use Rattle.grade.specs.Finalize.{finalized}
use Rattle.grade.specs.Answered.{answered}
use Rattle.gather.specs.Gathered.{span_sums}
use Rattle.tally.specs.Tally.{total_of}
use Rattle.picture.specs.Pixels.{filled}
use Rattle.picture.specs.Painting.{painted}
use Rattle.lines.specs.Hex.{malformed}
use Rattle.frame.specs.declared.Values.{Values}
use Rattle.frame.specs.declared.Answer.TheVariants.{Made, Set, Scored, Painted, Refused}
use Rattle.frame.specs.Frames.{Request, new, row, score, paint}
use Rattle.held.specs.declared.State.{State}
use Rattle.frame.specs.declared.Request as asked
use Rattle.held.specs.Asking.{request_of}
use Rattle.session.specs.declared.Stepped.{Stepped}
use Rattle.session.specs.Session.{Session, nothing, drawing, channel, bad_sides, misplaced, shape_tests, refusal, score_of, painted_of, values_of, taken, given, after, answer}
use Rattle.session.specs.Held.{Sides, Sheet, picture_size, table_size, Standing, none, some, Holds, session_of, shape_refusal, weighed_of, stepped, StepTakes}
use Rattle.session.specs.SheetLaws.{table-sums}

pub picture_room : (w h : ℕ) → w ≤ 16 → h ≤ 16 → h * w * 3 ≤ 768
picture_room w h a b = omega (arith, mul-le-mul b a)

pub table-room : (w h : ℕ) → w ≤ 16 → h ≤ 16 → h * (w + 1) * 15 ≤ 4080
table-room w h a b =
    let d : w + 1 ≤ 17 = omega arith in
    omega (arith, mul-le-mul b d)

-- ---- what is held
module _ (s : State) (t c : List Float) where
  pub session_none : s.w ≡ 0 → session_of s t c ≡ nothing
  unfolding session_of
  session_none e = simp (eq-eqb s.w 0 e)

  pub session_some : (s.w ≡ 0 → ⊥) → session_of s t c ≡ drawing s.w s.h s.painted (take (picture_size s) t) (take (picture_size s) c)
  unfolding session_of
  session_some n = simp (ne_eqb s.w 0 n)

  module _ (tab : List Float) (h : Holds s t c tab) where
    pub sheet_of : (s.w ≡ 0 → ⊥) → Sheet s.w s.h (take (picture_size s) t) (take (picture_size s) c) (take (table_size s) tab) × (s.painted ≡ false → T (all_within (take (picture_size s) c)))
    sheet_of n = by h.standing
      where
        by : Standing s t c tab → Sheet s.w s.h (take (picture_size s) t) (take (picture_size s) c) (take (table_size s) tab) × (s.painted ≡ false → T (all_within (take (picture_size s) c)))
        by (none e) = absurd (n (ap (λ (x : State). x.w) e))
        by (some a b) = (a, b)

    pub small : (s.w ≤ 16) × (s.h ≤ 16)
    small = by h.standing
      where
        by : Standing s t c tab → (s.w ≤ 16) × (s.h ≤ 16)
        by (none e) =
            let a : s.w ≡ 0 = ap (λ (x : State). x.w) e in
            let b : s.h ≡ 0 = ap (λ (x : State). x.h) e in
            (omega arith, omega arith)
        by (some a b) = (a.sides.w_high, a.sides.h_high)

-- there is room for a picture of the sizes held, and its sides are within 1..16
pub rooms : {s : State} {t c tab : List Float} → Holds s t c tab → (picture_size s ≤ 768) × (table_size s ≤ 4080) × (s.w ≤ 16)
rooms {s} {t} {c} {tab} h =
    let m = small s t c tab h in
    (picture_room s.w s.h m.0 m.1, table-room s.w s.h m.0 m.1, m.0)

pub sides_held : {s : State} {t c tab : List Float} → Holds s t c tab → (s.w ≡ 0 → ⊥) → Sides s.w s.h
sides_held {s} {t} {c} {tab} h n = (sheet_of s t c tab h n).0.sides

pub sides_of : (w h : ℕ) → bad_sides w h ≡ false → Sides w h
unfolding bad_sides
sides_of w h e =
    let three = or_left (ltb w 1 || ltb 16 w || ltb h 1) (ltb 16 h) e in
    let two = or_left (ltb w 1 || ltb 16 w) (ltb h 1) three in
    record {
      w_low = ltb-false w 1 (or_left (ltb w 1) (ltb 16 w) two);
      w_high = ltb-false 16 w (or_right (ltb w 1) (ltb 16 w) two);
      h_low = ltb-false h 1 (or_right (ltb w 1 || ltb 16 w) (ltb h 1) three);
      h_high = ltb-false 16 h (or_right (ltb w 1 || ltb 16 w || ltb h 1) (ltb 16 h) e);
    }

-- what came back stands at the front
module _ {A : Type 0} (n : ℕ) (l x : List A) (e : length x ≡ n) where
  front : take n (x ++ drop n l) ≡ x
  front = take_at x (drop n l) n e

  behind : drop n (x ++ drop n l) ≡ drop n l
  behind = drop_at x (drop n l) n e

  front_length : n ≤ length l → length (x ++ drop n l) ≡ length l
  front_length k = length-append x (drop n l) ∙ omega (arith, length-drop n l)

pub part_length : {A : Type 0} (n : ℕ) (l : List A) → n ≤ length l → length (take (n - 0) l) ≡ n
part_length n l h = ap (λ (k : ℕ). length (take k l)) (sub-zero n) ∙ length-take-le n l h

pub row-bytes : (n : ℕ) (bytes : List ℕ) → 2 + n ≤ length bytes → length (take n (drop 2 bytes)) ≡ n
row-bytes n bytes h = length-take-le n (drop 2 bytes) (omega (arith, length-drop 2 bytes))

-- ---- the same step, of a result or a request that is the same
pub result_as : {s : State} {q : Request} {t c tab t' c' tab' : List Float} {r k : Stepped} → r ≡ k → StepTakes s q t c tab k t' c' tab' → StepTakes s q t c tab r t' c' tab'
result_as {s} {q} {t} {c} {tab} {t'} {c'} {tab'} e p = subst (λ (x : Stepped). StepTakes s q t c tab x t' c' tab') (sym e) p

pub request_as : {s : State} {q k : asked.Request} (bytes : List ℕ) {t c tab t' c' tab' : List Float} {r : Stepped} → q ≡ k
    → StepTakes s (request_of k bytes) t c tab r t' c' tab' → StepTakes s (request_of q bytes) t c tab r t' c' tab'
request_as {s} bytes {t} {c} {tab} {t'} {c'} {tab'} {r} e p =
    subst (λ (x : asked.Request). StepTakes s (request_of x bytes) t c tab r t' c' tab') (sym e) p

-- ---- a step that is refused, and one that is taken
module _ (S : Session) (q : Request) where
  pub refused_stays : (n : ℕ) → refusal S q ≡ n → (n ≡ 0 → ⊥) → (after S q ≡ S) × (answer S q ≡ Refused n)
  unfolding after answer
  refused_stays n e z =
      let f : eqb (refusal S q) 0 ≡ false = ne_eqb (refusal S q) 0 (λ k. z (sym e ∙ k)) in
      (simp f, simp f (ap Refused e))

  pub taken_goes : refusal S q ≡ 0 → (after S q ≡ taken S q) × (answer S q ≡ given S q)
  unfolding after answer
  taken_goes e =
      let f : eqb (refusal S q) 0 ≡ true = eq-eqb (refusal S q) 0 e in
      (simp f, simp f)

module _ (s : State) (q : Request) (t c tab : List Float) (h : Holds s t c tab) where
  pub refuse : (n : ℕ) → refusal (session_of s t c) q ≡ n → (n ≡ 0 → ⊥) → StepTakes s q t c tab (stepped s (Refused n)) t c tab
  refuse n e z =
      let r = refused_stays (session_of s t c) q n e z in
      record { answered = sym r.1; session = sym r.0; holds = h; target_rest = refl; canvas-rest = refl; table-rest = refl }

  -- nothing but a 01 is taken before the first 81
  pub refuse_first : s.w ≡ 0 → refusal nothing q ≡ malformed → StepTakes s q t c tab (stepped s (Refused malformed)) t c tab
  refuse_first e f = refuse malformed (ap (λ (S : Session). refusal S q) (session_none s t c e) ∙ f) (λ z. omega arith)

  -- a drawing's number
  pub refuse_drawn : (n : ℕ) → (s.w ≡ 0 → ⊥) → refusal (drawing s.w s.h s.painted (take (picture_size s) t) (take (picture_size s) c)) q ≡ n → (n ≡ 0 → ⊥)
      → StepTakes s q t c tab (stepped s (Refused n)) t c tab
  refuse_drawn n d f z = refuse n (ap (λ (S : Session). refusal S q) (session_some s t c d) ∙ f) z

-- ---- 01
module _ (w h r g b : ℕ) where
  new-number : (S : Session) → refusal S (new w h r g b) ≡ lowest (size_if (bad_sides w h) ∷ [])
  unfolding refusal misplaced
  new-number nothing = refl
  new-number (drawing w' h' p t c) = refl

  new-taken : (S : Session) → taken S (new w h r g b) ≡ drawing w h false (filled w h nought nought nought) (filled w h (channel r) (channel g) (channel b))
  unfolding taken
  new-taken nothing = refl
  new-taken (drawing w' h' p t c) = refl

  new-given : (S : Session) → given S (new w h r g b) ≡ Made
  unfolding given
  new-given nothing = refl
  new-given (drawing w' h' p t c) = refl

  pub new-refused : (S : Session) → bad_sides w h ≡ true → refusal S (new w h r g b) ≡ 1
  new-refused S e = new-number S ∙ lowest-take (size_if (bad_sides w h)) [] e tt

  pub new_done : (s : State) (t c tab x y z : List Float) → Holds s t c tab → bad_sides w h ≡ false → x ≡ filled w h nought nought nought
      → y ≡ filled w h (channel r) (channel g) (channel b) → Sheet w h x y z → T (all_within y)
      → StepTakes s (new w h r g b) t c tab (stepped (record { w = w; h = h; painted = false }) Made) (x ++ drop (h * w * 3) t) (y ++ drop (h * w * 3) c) (z ++ drop (h * (w + 1) * 15) tab)
  new_done s t c tab x y z hold e f k sheet v =
      let u = sheet.sides in
      let goes = taken_goes (session_of s t c) (new w h r g b) (new-number (session_of s t c) ∙ lowest_skip (size_if (bad_sides w h)) [] e ∙ lowest-empty) in
      let p = picture_room w h u.w_high u.h_high in
      let q = table-room w h u.w_high u.h_high in
      let fx = front (h * w * 3) t x sheet.target_size in
      let fy = front (h * w * 3) c y sheet.canvas-size in
      let fz = front (h * (w + 1) * 15) tab z sheet.sums.size in
      record {
        answered = sym (goes.1 ∙ new-given (session_of s t c));
        session =
            session_some (record { w = w; h = h; painted = false }) (x ++ drop (h * w * 3) t) (y ++ drop (h * w * 3) c) (λ o. omega (arith, u.w_low))
            ∙ ap (λ (l : List Float). drawing w h false l (take (h * w * 3) (y ++ drop (h * w * 3) c))) (fx ∙ f)
            ∙ ap (λ (l : List Float). drawing w h false (filled w h nought nought nought) l) (fy ∙ k)
            ∙ sym (goes.0 ∙ new-taken (session_of s t c));
        holds = record {
          target_room = front_length (h * w * 3) t x sheet.target_size (omega (arith, hold.target_room)) ∙ hold.target_room;
          canvas-room = front_length (h * w * 3) c y sheet.canvas-size (omega (arith, hold.canvas-room)) ∙ hold.canvas-room;
          table-room = front_length (h * (w + 1) * 15) tab z sheet.sums.size (omega (arith, hold.table-room)) ∙ hold.table-room;
          standing = some (rw (fx, fy, fz) sheet) (λ o. rw fy v);
        };
        target_rest = behind (h * w * 3) t x sheet.target_size;
        canvas-rest = behind (h * w * 3) c y sheet.canvas-size;
        table-rest = behind (h * (w + 1) * 15) tab z sheet.sums.size;
      }

-- ---- 02
module _ (y : ℕ) (pixels : List ℕ) where
  pub row_first : refusal nothing (row y pixels) ≡ malformed
  unfolding refusal misplaced
  row_first = refl

  module _ (w h : ℕ) (p : Bool) (t c : List Float) where
    pub row-size : (length pixels ≡ w * 3 → ⊥) → refusal (drawing w h p t c) (row y pixels) ≡ malformed
    unfolding refusal misplaced
    row-size n = simp (ne_eqb (length pixels) (w * 3) n)

    pub row_past : length pixels ≡ w * 3 → h ≤ y → refusal (drawing w h p t c) (row y pixels) ≡ malformed
    unfolding refusal misplaced
    row_past e l = simp (eq-eqb (length pixels) (w * 3) e, le-leb h y l)

    pub row_late : length pixels ≡ w * 3 → y < h → p ≡ true → refusal (drawing w h p t c) (row y pixels) ≡ malformed
    unfolding refusal misplaced
    row_late e l o = simp (eq-eqb (length pixels) (w * 3) e, lt-leb h y l, o)

    row_fine : length pixels ≡ w * 3 → y < h → p ≡ false → refusal (drawing w h p t c) (row y pixels) ≡ 0
    unfolding refusal misplaced
    row_fine e l o = simp (eq-eqb (length pixels) (w * 3) e, lt-leb h y l, o) lowest-empty

    row-taken : taken (drawing w h p t c) (row y pixels) ≡ drawing w h p (put_row (w * 3) y (map channel pixels) t) c
    unfolding taken
    row-taken = refl

    row-given : given (drawing w h p t c) (row y pixels) ≡ Set
    unfolding given
    row-given = refl

  pub row_done : (s : State) (t c tab x z : List Float) → Holds s t c tab → (s.w ≡ 0 → ⊥) → length pixels ≡ s.w * 3 → y < s.h → s.painted ≡ false
      → x ≡ put_row (s.w * 3) y (map channel pixels) (take (picture_size s) t) → Sheet s.w s.h x (take (picture_size s) c) z
      → StepTakes s (row y pixels) t c tab (stepped s Set) (x ++ drop (picture_size s) t) c (z ++ drop (table_size s) tab)
  row_done s t c tab x z hold d e l o f sheet =
      let u = sheet.sides in
      let now : session_of s t c ≡ drawing s.w s.h s.painted (take (picture_size s) t) (take (picture_size s) c) = session_some s t c d in
      let goes =
      taken_goes (session_of s t c) (row y pixels)
      (ap (λ (S : Session). refusal S (row y pixels)) now ∙ row_fine s.w s.h s.painted (take (picture_size s) t) (take (picture_size s) c) e l o) in
      let p = picture_room s.w s.h u.w_high u.h_high in
      let q = table-room s.w s.h u.w_high u.h_high in
      let fx = front (picture_size s) t x sheet.target_size in
      let fz = front (table_size s) tab z sheet.sums.size in
      record {
        answered =
            sym
            (goes.1
            ∙ ap (λ (S : Session). given S (row y pixels)) now
            ∙ row-given s.w s.h s.painted (take (picture_size s) t) (take (picture_size s) c));
        session =
            session_some s (x ++ drop (picture_size s) t) c d
            ∙ ap (λ (l : List Float). drawing s.w s.h s.painted l (take (picture_size s) c)) (fx ∙ f)
            ∙ sym
            (goes.0
            ∙ ap (λ (S : Session). taken S (row y pixels)) now
            ∙ row-taken s.w s.h s.painted (take (picture_size s) t) (take (picture_size s) c));
        holds = record {
          target_room = front_length (picture_size s) t x sheet.target_size (omega (arith, hold.target_room)) ∙ hold.target_room;
          canvas-room = hold.canvas-room;
          table-room = front_length (table_size s) tab z sheet.sums.size (omega (arith, hold.table-room)) ∙ hold.table-room;
          standing = some (rw (fx, fz) sheet) (sheet_of s t c tab hold d).1;
        };
        target_rest = behind (picture_size s) t x sheet.target_size;
        canvas-rest = refl;
        table-rest = behind (table_size s) tab z sheet.sums.size;
      }

-- ---- 03 and 04
-- what an answer of the score tells
pub done_of : (n : ℕ) (v sc : Score) (r : scored.Outcome Score) → r ≡ answered n v → r ≡ scored.Done sc → (n ≡ 0) × (sc ≡ v)
done_of n v sc r e f = by (eqb n 0) refl (sym f ∙ e)
  where
    by : (b : Bool) → eqb n 0 ≡ b → scored.Done sc ≡ cond b (scored.Done v) (scored.Refused n) → (n ≡ 0) × (sc ≡ v)
    by true g k = (eqb-true n 0 g, cc)
    by false g k = let z : ◌≡◌ {A = ℕ} 0 1 = cc in absurd (omega arith)

pub refused_of : (n m : ℕ) (v : Score) (r : scored.Outcome Score) → r ≡ answered n v → r ≡ scored.Refused m → (n ≡ m) × (m ≡ 0 → ⊥)
refused_of n m v r e f = by (eqb n 0) refl (sym f ∙ e)
  where
    by : (b : Bool) → eqb n 0 ≡ b → scored.Refused m ≡ cond b (scored.Done v) (scored.Refused n) → (n ≡ m) × (m ≡ 0 → ⊥)
    by true g k = let z : ◌≡◌ {A = ℕ} 0 1 = cc in absurd (omega arith)
    by false g k =
        let same : m ≡ n = cc in
        (sym same, λ o. eqb-false n 0 g (sym same ∙ o))

module _ (kind : Kind) (bits : ℕ) where
  score-first : refusal nothing (score kind bits) ≡ malformed
  unfolding refusal misplaced
  score-first = refl

  paint-first : refusal nothing (paint kind bits) ≡ malformed
  unfolding refusal misplaced
  paint-first = refl

  module _ (w h : ℕ) (p : Bool) (t c : List Float) where
    score-tests : refusal (drawing w h p t c) (score kind bits) ≡ lowest (shape_tests kind bits)
    unfolding refusal misplaced
    score-tests = refl

    paint-tests : refusal (drawing w h p t c) (paint kind bits) ≡ lowest (shape_tests kind bits)
    unfolding refusal misplaced
    paint-tests = refl

    score-taken : taken (drawing w h p t c) (score kind bits) ≡ drawing w h p t c
    unfolding taken
    score-taken = refl

    score-given : given (drawing w h p t c) (score kind bits) ≡ Scored (values_of (score_of kind bits w h t c))
    unfolding given
    score-given = refl

    paint-taken : taken (drawing w h p t c) (paint kind bits) ≡ drawing w h true t (painted_of kind bits w h t c)
    unfolding taken
    paint-taken = refl

    paint-given : given (drawing w h p t c) (paint kind bits) ≡ Painted (values_of (score_of kind bits w h t c)) (to_bits binary64 (total_of t (painted_of kind bits w h t c)))
    unfolding given
    paint-given = refl

  module _ {s : State} {t c tab : List Float} (hold : Holds s t c tab) {a : Float} (ea : a ≡ of_bits binary32 bits) where
    -- the number of a request that has these tests, and needs a picture
    number_of : (q : Request) → refusal nothing q ≡ malformed
        → refusal (drawing s.w s.h s.painted (take (picture_size s) t) (take (picture_size s) c)) q ≡ lowest (shape_tests kind bits) → refusal (session_of s t c) q ≡ shape_refusal s kind a
    unfolding session_of
    number_of q e f = by (eqb s.w 0)
      where
        by : (b : Bool) → refusal (cond b nothing (drawing s.w s.h s.painted (take (picture_size s) t) (take (picture_size s) c))) q ≡ cond b malformed (lowest (place_if (bad_places kind) ∷ opacity_if (not (within a)) ∷ []))
        by true = e
        by false = f ∙ ap (λ (x : Float). lowest (place_if (bad_places kind) ∷ opacity_if (not (within x)) ∷ [])) (sym ea)

    pub score-number : refusal (session_of s t c) (score kind bits) ≡ shape_refusal s kind a
    score-number = number_of (score kind bits) score-first (score-tests s.w s.h s.painted (take (picture_size s) t) (take (picture_size s) c))

    pub paint-number : refusal (session_of s t c) (paint kind bits) ≡ shape_refusal s kind a
    paint-number = number_of (paint kind bits) paint-first (paint-tests s.w s.h s.painted (take (picture_size s) t) (take (picture_size s) c))

    pub shape_refused : {q : Request} {m : ℕ} {r : scored.Outcome Score} → refusal (session_of s t c) q ≡ shape_refusal s kind a → r ≡ weighed_of s kind a tab → r ≡ scored.Refused m
        → StepTakes s q t c tab (stepped s (Refused m)) t c tab
    shape_refused {q} {m} {r} f e g =
        let z = refused_of (shape_refusal s kind a) m (finalized (span_sums kind s.w s.h (take (table_size s) tab)) a) r e g in
        refuse s q t c tab hold m (f ∙ z.0) z.1

    -- a shape that has a score: there is a picture, and the shape has its places
    module _ {sc : Score} {r : scored.Outcome Score} (e : r ≡ weighed_of s kind a tab) (f : r ≡ scored.Done sc) where
      weighed_as : (shape_refusal s kind a ≡ 0) × (sc ≡ finalized (span_sums kind s.w s.h (take (table_size s) tab)) a)
      weighed_as = done_of (shape_refusal s kind a) (finalized (span_sums kind s.w s.h (take (table_size s) tab)) a) sc r e f

      pub shape_drawn : s.w ≡ 0 → ⊥
      shape_drawn z = let n : malformed ≡ 0 = sym (simp (eq-eqb s.w 0 z)) ∙ weighed_as.0 in omega arith

      pub shape-placed : bad_places kind ≡ false
      shape-placed = (lowest-none (place_if (bad_places kind)) (opacity_if (not (within a)) ∷ []) tt (simp (ne_eqb s.w 0 shape_drawn) at weighed_as.0)).0

    -- the score from the table held is that of the pictures
    score_so : (s.w ≡ 0 → ⊥) → (sc : Score) → sc ≡ finalized (span_sums kind s.w s.h (take (table_size s) tab)) a
        → sc ≡ score_of kind bits s.w s.h (take (picture_size s) t) (take (picture_size s) c)
    unfolding score_of
    score_so d sc e =
        e
        ∙ ap (finalized (span_sums kind s.w s.h (take (table_size s) tab))) ea
        ∙ ap (λ z. finalized z (of_bits binary32 bits)) (table-sums kind s.w s.h (take (picture_size s) t) (take (picture_size s) c) (take (table_size s) tab) (sheet_of s t c tab hold d).0.sums)

    pub score_done : {sc : Score} {v : Values} {r : scored.Outcome Score} → r ≡ weighed_of s kind a tab
        → r ≡ scored.Done sc → v ≡ values_of sc → StepTakes s (score kind bits) t c tab (stepped s (Scored v)) t c tab
    score_done {sc} e f k =
        let z = weighed_as e f in
        let d = shape_drawn e f in
        let now : session_of s t c ≡ drawing s.w s.h s.painted (take (picture_size s) t) (take (picture_size s) c) = session_some s t c d in
        let goes = taken_goes (session_of s t c) (score kind bits) (score-number ∙ z.0) in
        record {
          answered =
              ap (λ (x : Values). Scored x) (k ∙ ap values_of (score_so d sc z.1))
              ∙ sym
              (goes.1
              ∙ ap (λ (S : Session). given S (score kind bits)) now
              ∙ score-given s.w s.h s.painted (take (picture_size s) t) (take (picture_size s) c));
          session =
              now
              ∙ sym
              (goes.0
              ∙ ap (λ (S : Session). taken S (score kind bits)) now
              ∙ score-taken s.w s.h s.painted (take (picture_size s) t) (take (picture_size s) c));
          holds = hold;
          target_rest = refl;
          canvas-rest = refl;
          table-rest = refl;
        }

    as_painted : (sc : Score) → sc ≡ score_of kind bits s.w s.h (take (picture_size s) t) (take (picture_size s) c)
        → painted kind a sc.red sc.green sc.blue s.w s.h (take (picture_size s) c) ≡ painted_of kind bits s.w s.h (take (picture_size s) t) (take (picture_size s) c)
    unfolding painted_of
    as_painted sc i =
        ap (λ (l : Score). painted kind a l.red l.green l.blue s.w s.h (take (picture_size s) c)) i
        ∙ ap (λ (l : Float). painted kind l (score_of kind bits s.w s.h (take (picture_size s) t) (take (picture_size s) c)).red (score_of kind bits s.w s.h (take (picture_size s) t) (take (picture_size s) c)).green (score_of kind bits s.w s.h (take (picture_size s) t) (take (picture_size s) c)).blue s.w s.h (take (picture_size s) c)) ea

    pub paint_done : {sc : Score} {v : Values} {r : scored.Outcome Score} {x z : List Float} {total : Float} {n : ℕ} → r ≡ weighed_of s kind a tab
        → r ≡ scored.Done sc → v ≡ values_of sc → x ≡ painted kind a sc.red sc.green sc.blue s.w s.h (take (picture_size s) c)
        → Sheet s.w s.h (take (picture_size s) t) x z → total ≡ total_of (take (picture_size s) t) x → n ≡ to_bits binary64 total
        → StepTakes s (paint kind bits) t c tab (stepped (record { w = s.w; h = s.h; painted = true }) (Painted v n)) t (x ++ drop (picture_size s) c) (z ++ drop (table_size s) tab)
    paint_done {sc} {x = x} {z = z} {n = n} e f k g sheet o m =
        let y = weighed_as e f in
        let d = shape_drawn e f in
        let u = sheet.sides in
        let now : session_of s t c ≡ drawing s.w s.h s.painted (take (picture_size s) t) (take (picture_size s) c) = session_some s t c d in
        let same : sc ≡ score_of kind bits s.w s.h (take (picture_size s) t) (take (picture_size s) c) = score_so d sc y.1 in
        let new : x ≡ painted_of kind bits s.w s.h (take (picture_size s) t) (take (picture_size s) c) = g ∙ as_painted sc same in
        let goes = taken_goes (session_of s t c) (paint kind bits) (paint-number ∙ y.0) in
        let p = picture_room s.w s.h u.w_high u.h_high in
        let q = table-room s.w s.h u.w_high u.h_high in
        let fx = front (picture_size s) c x sheet.canvas-size in
        let fz = front (table_size s) tab z sheet.sums.size in
        record {
          answered =
              ap (λ (i : Values). Painted i n) (k ∙ ap values_of same)
              ∙ ap (λ (i : ℕ). Painted (values_of (score_of kind bits s.w s.h (take (picture_size s) t) (take (picture_size s) c))) i)
              (m ∙ ap (to_bits binary64) (o ∙ ap (total_of (take (picture_size s) t)) new))
              ∙ sym
              (goes.1
              ∙ ap (λ (S : Session). given S (paint kind bits)) now
              ∙ paint-given s.w s.h s.painted (take (picture_size s) t) (take (picture_size s) c));
          session =
              session_some (record { w = s.w; h = s.h; painted = true }) t (x ++ drop (picture_size s) c) d
              ∙ ap (λ (l : List Float). drawing s.w s.h true (take (picture_size s) t) l) (fx ∙ new)
              ∙ sym
              (goes.0
              ∙ ap (λ (S : Session). taken S (paint kind bits)) now
              ∙ paint-taken s.w s.h s.painted (take (picture_size s) t) (take (picture_size s) c));
          holds = record {
            target_room = hold.target_room;
            canvas-room = front_length (picture_size s) c x sheet.canvas-size (omega (arith, hold.canvas-room)) ∙ hold.canvas-room;
            table-room = front_length (table_size s) tab z sheet.sums.size (omega (arith, hold.table-room)) ∙ hold.table-room;
            standing = some (rw (fx, fz) sheet) (λ b. let i : ◌≡◌ {A = ℕ} 0 1 = cc in absurd (omega arith));
          };
          target_rest = refl;
          canvas-rest = behind (picture_size s) c x sheet.canvas-size;
          table-rest = behind (table_size s) tab z sheet.sums.size;
        }
