-- Acts and the accesses that make races: which accesses conflict where acts do, and where the accesses of a new list come from (this project).
use Rattle.std.specs.Prelude.{◌≡◌, List, Bool, true, false, ◌&&◌, Option, Some, None}
use Rattle.std.specs.List.{list_any}
use Rattle.ped_eval.specs.ped_store.specs.Cells.{Cell, same_cell}
use Rattle.ped_eval.specs.ped_store.specs.Acts.{Manner, reads, writes, is_told, Touch, Turn, Act}
use Rattle.ped_eval.specs.ped_store.specs.Races.{Access, accesses, is_lines, is_write, conflict, are_apart}
use Rattle.ped_laws.specs.Acts.Orders.{IsIn}

-- the place gives the value (plain words)
abbrev pub is_told_value : Manner → Bool
is_told_value is_told = true
is_told_value reads = false
is_told_value writes = false

-- an act that gets the value of the variable with this cell from its place (this project)
abbrev pub told_to : Act → Cell → Bool
told_to a c = list_any (λ t. is_told_value t.manner && same_cell t.cell c) a.touches

-- an act that touches the data or the output writes them, since a READ takes lines and a PRINT adds one (ANSI X3.9-1978, section 12.8; this project)
abbrev pub WritesItsLines : Act → Type 0
WritesItsLines a = (t : Touch) → IsIn t a.touches → is_lines t.cell ≡ true → (u : Touch) × IsIn u a.touches × (is_write u.manner ≡ true) × (same_cell u.cell t.cell ≡ true)

-- iterations of one DO are all of a PARALLEL DO, or none is (plain words)
abbrev pub AreOfOneKind : List Turn → List Turn → Type 0
AreOfOneKind ts us = (t u : Turn) → IsIn t ts → IsIn u us → t.statement ≡ u.statement → t.parallel ≡ u.parallel

-- two accesses are in two iterations of one execution of a PARALLEL DO, whichever is the earlier (this project)
abbrev pub StandApart : Access → Access → Type 0
StandApart a b = (are_apart a.place.turns b.place.turns ≡ true) × (are_apart b.place.turns a.place.turns ≡ true)

-- each access of the new acts comes from one of the old acts: from a write where it is one; accesses of one cell come from accesses of one cell; and accesses that conflict in two iterations of a PARALLEL DO come from accesses in such. An access without an origin conflicts with none of another iteration, as a DO's own stores do, or the read of what nothing there writes (this project)
pub record HaveOrigins (from : Access → Option Access) (acts others : List Act) : Type 0 where
  pub found : (b x : Access) → IsIn b (accesses others) → from b ≡ Some x → IsIn x (accesses acts)
  pub written : (b x : Access) → IsIn b (accesses others) → from b ≡ Some x → b.writes ≡ true → x.writes ≡ true
  pub one_cell : (b c x y : Access) → IsIn b (accesses others) → IsIn c (accesses others) → from b ≡ Some x → from c ≡ Some y → same_cell b.cell c.cell ≡ true → same_cell x.cell y.cell ≡ true
  pub apart : (b c x y : Access) → IsIn b (accesses others) → IsIn c (accesses others) → from b ≡ Some x → from c ≡ Some y → are_apart b.place.turns c.place.turns ≡ true → conflict b c ≡ true → StandApart x y
  pub alone : (b c : Access) → IsIn b (accesses others) → IsIn c (accesses others) → from b ≡ None → are_apart b.place.turns c.place.turns ≡ true → conflict b c ≡ false
  pub alone_behind : (b c : Access) → IsIn b (accesses others) → IsIn c (accesses others) → from c ≡ None → are_apart b.place.turns c.place.turns ≡ true → conflict b c ≡ false
