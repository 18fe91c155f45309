-- Acts that are done likewise: on cells that correspond, in iterations that correspond (this project).
use Rattle.std.specs.Prelude.{◌≡◌, ℕ, ℤ, List, [], ◌∷◌, ◌++◌, map, Bool, true, false, Ok, ◌⊎◌}
use Rattle.ped_steps.specs.ped_store.specs.Cells.{Cell, Element, In, Out}
use Rattle.ped_steps.specs.ped_store.specs.Stores.{Store}
use Rattle.ped_steps.specs.ped_store.specs.Acts.{is_told, Turn, Touch, Act}
use Rattle.ped_steps.specs.ped_laws.specs.Acts.Fitting.{of_cells}
use Rattle.ped_steps.specs.ped_laws.specs.Acts.Orders.{IsIn}
use Rattle.ped_steps.specs.ped_store.specs.Races.{Access, is_lines, is_write}
use Rattle.ped_steps.specs.ped_eval.specs.Evaluation.{Seen, cell_seen, index_seen, Evaluated, numbered, number_behind}
use Rattle.ped_steps.specs.ped_eval.specs.Runs.{Run}
use Rattle.ped_steps.specs.ped_laws.specs.Runs.Seeing.{ComesTo}
use Rattle.ped_steps.specs.ped_laws.specs.Runs.Replaying.{Finish, Replays}
use Rattle.ped_steps.specs.Runs.Renumbering.{renumbered_turn}

-- cells get other names, but elements, the data and the output keep theirs (this project)
pub record NamesScalars (name : Cell → Cell) : Type 0 where
  pub element : (x : List ℕ) (subscripts : List ℤ) → name (Element x subscripts) ≡ Element x subscripts
  pub input : name In ≡ In
  pub output : name Out ≡ Out

-- this holds of each cell that is seen, and of the cells of DO variables whose values places give (plain words)
abbrev pub OfSeen : (Cell → Type 0) → List Seen → Type 0
OfSeen P [] = Unit {0}
OfSeen P (cell_seen c content ∷ more) = P c × OfSeen P more
OfSeen P (index_seen c v ∷ more) = P c × OfSeen P more

-- two cells correspond: the second is the first by its new name, or both are cells of which a step asks nothing (this project)
abbrev pub Meet : (name : Cell → Cell) (idle : Cell → Bool) → Cell → Cell → Type 0
Meet name idle c d = (d ≡ name c) ⊎ ((idle c ≡ true) × (idle d ≡ true))

-- two touches correspond: the same reference reads or writes the same content, in cells that correspond (this project)
pub record Meets (name : Cell → Cell) (idle : Cell → Bool) (x y : Touch) : Type 0 where
  pub manner : y.manner ≡ x.manner
  pub reference : y.reference ≡ x.reference
  pub content : y.content ≡ x.content
  pub cells : Meet name idle x.cell y.cell

-- touches correspond one by one, in order (this project)
abbrev pub AllMeet : (name : Cell → Cell) (idle : Cell → Bool) → List Touch → List Touch → Type 0
AllMeet name idle [] [] = Unit {0}
AllMeet name idle [] (y ∷ ys) = ⊥
AllMeet name idle (x ∷ xs) [] = ⊥
AllMeet name idle (x ∷ xs) (y ∷ ys) = Meets name idle x y × AllMeet name idle xs ys

-- evaluations have seen alike: cells that correspond, in order, with the same contents; so references count alike. What places give may differ (this project)
pub record AreSeenAlike (name : Cell → Cell) (idle : Cell → Bool) (xs ys : List Seen) : Type 0 where
  pub touches : (n : ℕ) → AllMeet name idle (of_cells (numbered n xs)) (of_cells (numbered n ys))
  pub behind : (n : ℕ) → number_behind n ys ≡ number_behind n xs

-- from each store that holds what it sees, an evaluation gives this value, and it sees alike what was seen before; neither the data nor the output are among that (this project)
pub record ComesLikewise {X : Type 0} (name : Cell → Cell) (idle : Cell → Bool) (before : List Seen) (e : Store → Evaluated X) (x : X) : Type 0 where
  pub seen : List Seen
  pub comes : ComesTo e seen (Ok x)
  pub alike : AreSeenAlike name idle before seen
  pub apart : OfSeen (λ c. is_lines c ≡ false) seen

-- an act is done likewise: the same step of the statement with the new number, in the other iterations and, further inside, in the same ones under new numbers; it touches cells that correspond. What places give may differ (this project)
pub record IsLikewise (name : Cell → Cell) (idle : Cell → Bool) (f : ℕ → ℕ) (turns others : List Turn) (a b : Act) : Type 0 where
  pub step : b.step ≡ a.step
  pub statement : b.place.statement ≡ f a.place.statement
  pub more : List Turn
  pub old : a.place.turns ≡ turns ++ more
  pub new : b.place.turns ≡ others ++ map (renumbered_turn f) more
  pub touches : AllMeet name idle (of_cells a.touches) (of_cells b.touches)

-- acts are done likewise one by one, in order (this project)
abbrev pub AreLikewise : (name : Cell → Cell) (idle : Cell → Bool) (f : ℕ → ℕ) (turns others : List Turn) → List Act → List Act → Type 0
AreLikewise name idle f turns others [] [] = Unit {0}
AreLikewise name idle f turns others [] (b ∷ bs) = ⊥
AreLikewise name idle f turns others (a ∷ more) [] = ⊥
AreLikewise name idle f turns others (a ∷ more) (b ∷ bs) = IsLikewise name idle f turns others a b × AreLikewise name idle f turns others more bs

-- a piece of a run does likewise what these acts did, from each store that its own acts fit, and ends so (this project)
pub record DoesLikewise (name : Cell → Cell) (idle : Cell → Bool) (f : ℕ → ℕ) (turns others : List Turn) (acts : List Act) (finish : Finish) (piece : Store → Run) : Type 0 where
  pub fresh : List Act
  pub likewise : AreLikewise name idle f turns others acts fresh
  pub replays : Replays piece fresh finish

-- an access is made likewise: by the same reference, of the statement with the new number, in iterations that correspond, and in a cell that corresponds (this project)
pub record IsMadeLikewise (name : Cell → Cell) (idle : Cell → Bool) (f : ℕ → ℕ) (turns others : List Turn) (x y : Access) : Type 0 where
  pub cell : Meet name idle x.cell y.cell
  pub writes : y.writes ≡ x.writes
  pub reference : y.reference ≡ x.reference
  pub statement : y.place.statement ≡ f x.place.statement
  pub more : List Turn
  pub old : x.place.turns ≡ turns ++ more
  pub new : y.place.turns ≡ others ++ map (renumbered_turn f) more

-- an access among those of acts is no more than the value of a DO variable, which a place gives (this project)
pub record IsOnlyTold (acts : List Act) (y : Access) : Type 0 where
  pub by : Act
  pub found : IsIn by acts
  pub touch : Touch
  pub among : IsIn touch by.touches
  pub manner : touch.manner ≡ is_told
  pub is : y ≡ record { cell = touch.cell; writes = is_write touch.manner; place = by.place; reference = touch.reference }
