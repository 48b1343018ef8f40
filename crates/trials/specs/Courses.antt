-- Rules: the forms in which a trial is proved: what the program holds in its course, as the rule has it. The answer's promise does not rest on them.
use Rattle.std.specs.Prelude.{◌≡◌, true, List, ℕ, ◌+◌, ◌*◌, ◌≤◌, ◌<◌, T, Float, length, take, get_or, Option, None, Some}
use Rattle.std.specs.Float.{nan}
use Rattle.laws.specs.Every.{every}
use Rattle.float.specs.Within.{nought, all_within}
use Rattle.cover.specs.declared.reached.Rows.{Rows}
use Rattle.cover.specs.ReachRows.{reach_rows}
use Rattle.tally.specs.Tally.{total_of}
use Rattle.tally.specs.Rows.{total_on}
use Rattle.shapes.specs.declared.Shape.{Shape}
use Rattle.shapes.specs.declared.Shapes.{Shapes}
use Rattle.shapes.specs.Lists.{listed}
use Rattle.shapes.specs.Ranges.{fits}
use Rattle.trials.specs.declared.Course.{Course}
use Rattle.traces.specs.Refinement.{Scene, Progress, painted_on, drawn, lower, next}
use Rattle.traces.specs.Scenes.{shape_painted, scene_with}
use Rattle.traces.specs.Traces.{Drawable, Traced}

-- the target, of which totals are taken
pub record Targeted (w h : ℕ) (target : List Float) : Type 0 where
  pub long : length target ≡ h * w * 3
  pub inside : T (all_within target)

-- before each of the first n rows of a picture, and after them, stands what is added up so far
abbrev pub SummedTo : ℕ → ℕ → List Float → List Float → List Float → Type 0
SummedTo w n target picture sums = (y : ℕ) → y ≤ n → get_or sums y nan ≡ total_on target picture nought 0 (y * w * 3)

-- rows of a picture, above and below which neither of two shapes reaches any
pub record Spanned (w h : ℕ) (s x : Shape) (rows : Rows) : Type 0 where
  pub ordered : rows.top ≤ rows.bottom
  pub inside : rows.bottom ≤ h
  pub above-s : rows.top ≤ (reach_rows s.kind w h).top
  pub above-x : rows.top ≤ (reach_rows x.kind w h).top
  pub below_s : rows.bottom < h → (reach_rows s.kind w h).bottom ≤ rows.bottom
  pub below_x : rows.bottom < h → (reach_rows x.kind w h).bottom ≤ rows.bottom

-- pictures that are the same above some rows, and below them
pub record Apart (w h top bottom : ℕ) (p q : List Float) : Type 0 where
  pub above : (i : ℕ) → i < top * w * 3 → get_or p i nan ≡ get_or q i nan
  pub below : (i : ℕ) → bottom * w * 3 ≤ i → i < h * w * 3 → get_or p i nan ≡ get_or q i nan

-- what is answered of a trial's picture, against the sums of the list: by the number the total is judged, and if it is lower, it is the total, and these are the picture's sums
pub record Judged (w h : ℕ) (target picture old new : List Float) (r : Float) : Type 0 where
  pub verdict : lower r (get_or old h nan) ≡ lower (total_of target picture) (get_or old h nan)
  pub total : lower r (get_or old h nan) ≡ true → r ≡ total_of target picture
  pub sums : lower r (get_or old h nan) ≡ true → SummedTo w h target picture new

-- the program's numbers as the rule has them
abbrev pub progress_of : Course → Progress Shape
progress_of c = record { list = listed c.list; place = c.place; passes = c.passes; trials = c.trials; acceptances = c.acceptances }

-- a trial without an acceptance, but for the pictures
abbrev pub risen : Course → ℕ → Course
risen c made = record { list = c.list; place = c.place + 1; passes = c.passes; trials = c.trials + 1; acceptances = c.acceptances; made = made; old = c.old }

-- and one with an acceptance, the list after it being list, and its total new
abbrev pub taken : Course → Shapes → Float → Course
taken c list new = record { list = list; place = c.place; passes = c.passes; trials = c.trials + 1; acceptances = c.acceptances + 1; made = c.place; old = new }

-- what is lent beside the first picture: the second, the sums of the list, and its table
pub record Aids : Type 0 where
  pub second : List Float
  pub sums : List Float
  pub runs : List ℕ
  pub paints : List Float

abbrev pub aids_of : List Float → List Float → List ℕ → List Float → Aids
aids_of second sums runs paints = record { second = second; sums = sums; runs = runs; paints = paints }

-- they serve a list over a background
pub record Aided (w h : ℕ) (target background : List Float) (l : List Shape) (a : Aids) : Type 0 where
  pub second_long : length a.second ≡ h * w * 3
  pub inside : T (all_within a.second)
  pub sums_long : length a.sums ≡ 257
  pub sums : SummedTo w h target (painted_on (shape_painted w h) background l) a.sums
  pub traced : Traced w h l a.runs a.paints

-- at any time: `old` is the total of the list drawn, and the aids serve the list, whatever that means
pub record Kept (g : Scene Shape (List Float)) (size : ℕ) (q : List Shape → Aids → Type 0) (c : Course) (first : List Float) (aids : Aids) : Type 0 where
  pub few : c.list.count ≤ 64
  pub long : length c.list.items ≡ 64
  pub fitting : T (every fits (listed c.list))
  pub total : c.old ≡ g.total (drawn g (listed c.list))
  pub served : q (listed c.list) aids
  pub first_long : length first ≡ size

-- during a pass: `first` has the first `made` shapes drawn, of those before j
pub record Held (g : Scene Shape (List Float)) (size : ℕ) (q : List Shape → Aids → Type 0) (c : Course) (first : List Float) (aids : Aids) : Type 0 where
  pub kept : Kept g size q c first aids
  pub behind : c.made ≤ c.place
  pub some_drawn : first ≡ drawn g (take c.made (listed c.list))
  pub inside : T (all_within first)

-- after a trial: the rule's next
pub record Stepped (g : Scene Shape (List Float)) (size : ℕ) (q : List Shape → Aids → Type 0) (c r : Course) (first : List Float) (aids : Aids) : Type 0 where
  pub held : Held g size q r first aids
  pub same_count : r.list.count ≡ c.list.count
  pub at : progress_of r ≡ next g (progress_of c)

-- a candidate that is a shape fits
abbrev pub CandidateFits : Option Shape → Type 0
CandidateFits None = Unit {0}
CandidateFits (Some x) = T (fits x)

-- what a trial rests on
pub record Ready (w h : ℕ) (target : List Float) (c : Course) (what : Option Shape) (first second sums : List Float) (runs : List ℕ) (paints : List Float) : Type 0 where
  pub list : Drawable w h c.list
  pub candidate : CandidateFits what
  pub aim : Targeted w h target
  pub place : c.place < c.list.count
  pub behind : c.made ≤ c.place
  pub few_trials : c.trials < 1024
  pub few_taken : c.acceptances ≤ c.trials
  pub first_long : length first ≡ h * w * 3
  pub second_long : length second ≡ h * w * 3
  pub inside : T (all_within first)
  pub second-inside : T (all_within second)
  pub sums_long : length sums ≡ 257
  pub traced : Traced w h (listed c.list) runs paints

-- what a trial promises: over any background and any candidates of the other trials, if the course was held to the rule, it still is after the rule's next trial
abbrev pub StepSays : ℕ → ℕ → List Float → Course → Option Shape → List Float → Aids → Course → List Float → Aids → Type 0
StepSays w h target c what first aids r first' aids' =
    (b : List Float) (f : ℕ → Option Shape) → f c.trials ≡ what
    → Held (scene_with w h target b f) (h * w * 3) (Aided w h target b) c first aids
    → Stepped (scene_with w h target b f) (h * w * 3) (Aided w h target b) c r first' aids'
