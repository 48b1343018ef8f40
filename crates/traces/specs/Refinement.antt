-- Rules: document 01, "Refinement": trials, passes, the list and the counts, over any shapes, pictures, drawing and total.
use Rattle.std.specs.Prelude.{Bool, false, ◌||◌, cond, List, [], ◌∷◌, ◌++◌, ℕ, zero, suc, ◌+◌, eqb, ltb, length, Float, Option, None, Some}
use Rattle.std.specs.Float.{binary64}
use Rattle.std.specs.Float.Ieee.{round, add, lt}
use Rattle.laws.specs.Without.{without}

-- what refinement is about: how a shape is painted on a picture, the background, a picture's total, and the candidate of each trial, counted from 0
pub record Scene (S P : Type 0) : Type 0 where
  pub paint : S → P → P
  pub background : P
  pub total : P → Float
  pub candidate : ℕ → Option S

-- the shapes of a list painted on a picture, one after another
unfoldable pub painted_on : {S P : Type 0} → (S → P → P) → P → List S → P
painted_on paint p [] = p
painted_on paint p (s ∷ r) = painted_on paint (paint s p) r

-- the list drawn over the background
abbrev pub drawn : {S P : Type 0} → Scene S P → List S → P
drawn g l = painted_on g.paint g.background l

-- ---- one trial

-- 1e-9
abbrev pub margin : Float
margin = round binary64 false 1 1000000000

-- new + 1e-9 < old
unfoldable pub lower : Float → Float → Bool
lower new old = lt (add binary64 new margin) old

pub data Outcome (S : Type 0) : Type 0 where
  no_candidate : Outcome S
  not_lower : Outcome S
  accepted : S → Outcome S

pub record Trial (S : Type 0) : Type 0 where
  pub old : Float
  pub new : Float
  pub outcome : Outcome S

-- a trial of shape j. Old: the total of the whole list drawn. New: that of the picture without shape j, the candidate painted on top;
-- without a candidate nothing is drawn anew, and new is old
unfoldable pub trial : {S P : Type 0} → Scene S P → List S → ℕ → Option S → Trial S
trial g l j None = record { old = g.total (drawn g l); new = g.total (drawn g l); outcome = no_candidate }
trial g l j (Some s) =
    let old = g.total (drawn g l) in
    let new = g.total (g.paint s (drawn g (without j l))) in
    record { old = old; new = new; outcome = cond (lower new old) (accepted s) not_lower }

-- ---- trials one after another

-- how far refinement has come: the list, the place j of the next trial, passes begun, trials and acceptances
pub record Progress (S : Type 0) : Type 0 where
  pub list : List S
  pub place : ℕ
  pub passes : ℕ
  pub trials : ℕ
  pub acceptances : ℕ

-- an accepted candidate: shape j leaves, later ones move up, the candidate goes last, j stays. Otherwise j rises by one
unfoldable pub after : {S : Type 0} → Outcome S → Progress S → Progress S
after no_candidate a =
    record { list = a.list; place = a.place + 1; passes = a.passes; trials = a.trials + 1; acceptances = a.acceptances }
after not_lower a =
    record { list = a.list; place = a.place + 1; passes = a.passes; trials = a.trials + 1; acceptances = a.acceptances }
after (accepted s) a =
    record { list = without a.place a.list ++ (s ∷ []); place = a.place; passes = a.passes; trials = a.trials + 1; acceptances = a.acceptances + 1 }

-- the next trial takes the candidate of its number
unfoldable pub next : {S P : Type 0} → Scene S P → Progress S → Progress S
next g a = after (trial g a.list a.place (g.candidate a.trials)).outcome a

unfoldable pub nexts : {S P : Type 0} → Scene S P → ℕ → Progress S → Progress S
nexts g zero a = a
nexts g (suc n) a = nexts g n (next g a)

-- ---- passes

-- a pass begins with j at 0
unfoldable pub begun : {S : Type 0} → Progress S → Progress S
begun a = record { list = a.list; place = 0; passes = a.passes + 1; trials = a.trials; acceptances = a.acceptances }

-- and makes as many trials as the list is long
unfoldable pub pass : {S P : Type 0} → Scene S P → Progress S → Progress S
pass g a = nexts g (length a.list) (begun a)

-- at most p passes; one with no acceptance is the last
unfoldable pub passes : {S P : Type 0} → Scene S P → ℕ → Progress S → Progress S
passes g zero a = a
passes g (suc p) a =
    let b = pass g a in let c = passes g p b in cond (eqb b.acceptances a.acceptances) b c

abbrev pub nothing_yet : {S : Type 0} → List S → Progress S
nothing_yet l = record { list = l; place = 0; passes = 0; trials = 0; acceptances = 0 }

-- with 0 passes or fewer than two shapes the list stays
unfoldable pub refined : {S P : Type 0} → Scene S P → ℕ → List S → Progress S
refined g p l = cond (eqb p 0 || ltb (length l) 2) (nothing_yet l) (passes g p (nothing_yet l))
