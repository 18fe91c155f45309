-- Paths as lists of events, and how those of a whole are made of those of its parts (this project).
use Rattle.std.specs.Prelude.{◌≡◌, ℕ, zero, suc, List, [], ◌++◌, ◌⊎◌}
use Rattle.ped_flow.specs.Events.{Event}

-- paths of one kind
abbrev pub Kind : Type 1
Kind = List Event → Type 0

-- no path
abbrev pub Never : Kind
Never path = ⊥

-- this path alone
abbrev pub Just : List Event → Kind
Just events path = path ≡ events

-- a path of one kind or of the other
abbrev pub Either : Kind → Kind → Kind
Either P Q path = P path ⊎ Q path

-- a path of one kind and, after it, one of the other
abbrev pub InTurn : Kind → Kind → Kind
InTurn P Q path = (front : List Event) × (back : List Event) × (path ≡ front ++ back) × P front × Q back

-- this number of paths of this kind, one after another
abbrev pub Times : ℕ → Kind → Kind
Times zero P = Just []
Times (suc n) P = InTurn P (Times n P)

-- any number of paths of this kind, one after another; none is a number
abbrev pub AnyTimes : Kind → Kind
AnyTimes P path = (n : ℕ) × Times n P path

-- the paths of a part of a program: those that go on after it, and those that end in it, at a STOP
pub record Paths : Type 1 where
  pub onward : Kind
  pub ending : Kind

-- this path, which goes on
abbrev pub going : List Event → Paths
going events = record { onward = Just events; ending = Never }

-- no path at all
abbrev pub nowhere : Paths
nowhere = record { onward = Never; ending = Never }

-- the path of a STOP, which ends where it begins (ANSI X3.9-1978, section 11.12)
abbrev pub stopping : Paths
stopping = record { onward = Never; ending = Just [] }

-- the paths through one part and then through another
abbrev pub in_turn : Paths → Paths → Paths
in_turn a b = record { onward = InTurn a.onward b.onward; ending = Either a.ending (InTurn a.onward b.ending) }

-- the paths of either part
abbrev pub either : Paths → Paths → Paths
either a b = record { onward = Either a.onward b.onward; ending = Either a.ending b.ending }

-- the paths through any number of trips; a path that ends does so in the last one
abbrev pub trips : Paths → Paths
trips a = record { onward = AnyTimes a.onward; ending = InTurn (AnyTimes a.onward) a.ending }

-- a path that goes on or ends
abbrev pub Whole : Paths → Kind
Whole a = Either a.onward a.ending
