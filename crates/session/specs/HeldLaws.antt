-- Laws: two steps that meet the promise are equal; what is held at the start.
use Rattle.std.specs.Prelude.{◌≡◌, Bool, List, ℕ, ◌+◌, length, take, drop, Float}
use Rattle.std.proofs.Common.{sym, ap, ◌∙◌, zero-mul, arith, take-append-drop}
use Rattle.table.specs.Table.{Table}
use Rattle.table.specs.TableLaws.{table-only}
use Rattle.frame.specs.Frames as frames
use Rattle.held.specs.declared.State.{State}
use Rattle.frame.specs.declared.Request.{Request}
use Rattle.held.specs.Asking.{request_of, StartSays}
use Rattle.session.specs.declared.Stepped.{Stepped}
use Rattle.session.specs.Session.{nothing}
use Rattle.session.specs.Held.{picture_size, table_size, Sheet, Standing, none, some, Holds, session_of, StepTakes, StepSays}
use Rattle.session.specs.SessionLaws.{session_none, session_some}

-- ---- what is held gives every number
state_same : (a b : State) → a.w ≡ b.w → a.h ≡ b.h → a.painted ≡ b.painted → a ≡ b
state_same a b p q r =
    ap (λ (x : ℕ). record { w = x; h = a.h; painted = a.painted }) p
    ∙ ap (λ (x : ℕ). record { w = b.w; h = x; painted = a.painted }) q
    ∙ ap (λ (x : Bool). record { w = b.w; h = b.h; painted = x }) r

list_same : (n m : ℕ) (l k old : List Float) → n ≡ m → take n l ≡ take m k → drop n l ≡ drop n old → drop m k ≡ drop m old → l ≡ k
list_same n m l k old e f g h = cc (take-append-drop n l, take-append-drop m k)

table_same : (w h w' h' : ℕ) (t c tab t' c' tab' : List Float) → w ≡ w' → h ≡ h' → t ≡ t' → c ≡ c' → Table w h t c tab → Table w' h' t' c' tab' → tab ≡ tab'
table_same w h w' h' t c tab t' c' tab' p q r s a b = table-only w h t c tab tab' a (rw (p, q, r, s) b)

-- a picture has a width
wide : {w h : ℕ} {t c tab : List Float} → Sheet w h t c tab → w ≡ 0 → ⊥
wide sheet e = omega (arith, sheet.sides.w_low)

module _ (a b : State) (t c tab t' c' tab' : List Float) (e : session_of a t c ≡ session_of b t' c') where
  -- what stands in what is lent, by the session that it holds
  record Same : Type 0 where
    state : a ≡ b
    targets : take (picture_size a) t ≡ take (picture_size b) t'
    canvases : take (picture_size a) c ≡ take (picture_size b) c'
    tables : take (table_size a) tab ≡ take (table_size b) tab'

  same_front : Standing a t c tab → Standing b t' c' tab' → Same
  same_front (none p) (none q) = let s : a ≡ b = p ∙ sym q in empty s (ap (λ (x : State). x.w) p) (ap (λ (x : State). x.h) p)
    where
      empty : a ≡ b → a.w ≡ 0 → a.h ≡ 0 → Same
      empty s x y =
          let n : picture_size a ≡ 0 = rw y (omega (arith, zero-mul a.w)) in
          let m : table_size a ≡ 0 = rw y (omega (arith, zero-mul (a.w + 1))) in
          let n' : picture_size b ≡ 0 = ap picture_size (sym s) ∙ n in
          let m' : table_size b ≡ 0 = ap table_size (sym s) ∙ m in
          record {
            state = s;
            targets = ap (λ (i : ℕ). take i t) n ∙ sym (ap (λ (i : ℕ). take i t') n');
            canvases = ap (λ (i : ℕ). take i c) n ∙ sym (ap (λ (i : ℕ). take i c') n');
            tables = ap (λ (i : ℕ). take i tab) m ∙ sym (ap (λ (i : ℕ). take i tab') m');
          }
  same_front (none p) (some q v) =
      let x = session_none a t c (ap (λ (z : State). z.w) p) in
      let y = session_some b t' c' (wide q) in
      let z : ◌≡◌ {A = ℕ} 0 1 = cc in
      absurd (omega arith)
  same_front (some p u) (none q) =
      let x = session_some a t c (wide p) in
      let y = session_none b t' c' (ap (λ (z : State). z.w) q) in
      let z : ◌≡◌ {A = ℕ} 0 1 = cc in
      absurd (omega arith)
  same_front (some p u) (some q v) =
      let x = session_some a t c (wide p) in
      let y = session_some b t' c' (wide q) in
      let ew : a.w ≡ b.w = cc in
      let eh : a.h ≡ b.h = cc in
      let ep : a.painted ≡ b.painted = cc in
      let et : take (picture_size a) t ≡ take (picture_size b) t' = cc in
      let ec : take (picture_size a) c ≡ take (picture_size b) c' = cc in
      record {
        state = state_same a b ew eh ep;
        targets = et;
        canvases = ec;
        tables = table_same a.w a.h b.w b.h _ _ _ _ _ _ ew eh et ec p.sums q.sums;
      }

stepped_same : (a b : Stepped) → a.state ≡ b.state → a.answer ≡ b.answer → a ≡ b
stepped_same a b p q = ap (λ (x : State). record { state = x; answer = a.answer }) p ∙ ap (λ x. record { state = b.state; answer = x }) q

pub StepTakes-unique : (s : State) (q : frames.Request) (t c tab : List Float) (r k : Stepped) (t₁ c₁ tab₁ t₂ c₂ tab₂ : List Float)
    → StepTakes s q t c tab r t₁ c₁ tab₁ → StepTakes s q t c tab k t₂ c₂ tab₂ → (r ≡ k) × (t₁ ≡ t₂) × (c₁ ≡ c₂) × (tab₁ ≡ tab₂)
StepTakes-unique s q t c tab r k t₁ c₁ tab₁ t₂ c₂ tab₂ x y =
    let f = same_front r.state k.state t₁ c₁ tab₁ t₂ c₂ tab₂ (x.session ∙ sym y.session) x.holds.standing y.holds.standing in
    let n : picture_size r.state ≡ picture_size k.state = ap picture_size f.state in
    let m : table_size r.state ≡ table_size k.state = ap table_size f.state in (
      stepped_same r k f.state (x.answered ∙ sym y.answered),
      list_same (picture_size r.state) (picture_size k.state) t₁ t₂ t n f.targets x.target_rest y.target_rest,
      list_same (picture_size r.state) (picture_size k.state) c₁ c₂ c n f.canvases x.canvas-rest y.canvas-rest,
      list_same (table_size r.state) (table_size k.state) tab₁ tab₂ tab m f.tables x.table-rest y.table-rest,
    )

pub StepSays-unique : (s : State) (q : Request) (bytes : List ℕ) (t c tab : List Float) (r k : Stepped) (t₁ c₁ tab₁ t₂ c₂ tab₂ : List Float)
    → StepSays s q bytes t c tab r t₁ c₁ tab₁ → StepSays s q bytes t c tab k t₂ c₂ tab₂ → (r ≡ k) × (t₁ ≡ t₂) × (c₁ ≡ c₂) × (tab₁ ≡ tab₂)
StepSays-unique s q bytes t c tab r k t₁ c₁ tab₁ t₂ c₂ tab₂ x y = StepTakes-unique s (request_of q bytes) t c tab r k t₁ c₁ tab₁ t₂ c₂ tab₂ x y

-- ---- at the start, whatever is lent
pub holds_start : (s : State) (t c tab : List Float) → StartSays s → length t ≡ 768 → length c ≡ 768 → length tab ≡ 4080 → Holds s t c tab
holds_start s t c tab e f g h = record { target_room = f; canvas-room = g; table-room = h; standing = none e }

pub starts_with_nothing : (s : State) (t c : List Float) → StartSays s → session_of s t c ≡ nothing
starts_with_nothing s t c e = session_none s t c (ap (λ (x : State). x.w) e)
