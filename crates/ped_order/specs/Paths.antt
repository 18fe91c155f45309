-- Paths: outer iterations that accesses have in common (this project).
use Rattle.std.specs.Prelude.{ℕ, suc, pos, List, [], ◌∷◌, Bool, ◌==◌, ◌&&◌, not, if◌then◌else◌}
use Rattle.ped_store.specs.Acts.{Turn}
use Rattle.ped_laws.specs.ped_eval.specs.declared.accesses.Turn as code
use Rattle.ped_order.specs.declared.paths.Level.{Level}

-- an iteration that an access is in, without the value of the DO's variable
abbrev pub level_of : code.Turn → Level
level_of t = record { statement = t.statement; parallel = t.parallel; number = t.number }

-- an iteration, of which the value of the DO's variable isn't kept
abbrev pub level_view : Level → Turn
level_view l = record { statement = l.statement; parallel = l.parallel; number = l.number; value = pos 0 }

-- the same iteration, whatever the DO's variable holds
abbrev pub same_turn : Turn → Turn → Bool
same_turn t u = (t.statement == u.statement) && ((t.number == u.number) && (if t.parallel then u.parallel else not u.parallel))

-- how many iterations, from the outermost on, are the same
abbrev pub common_count : List Turn → List Turn → ℕ
common_count (t ∷ ts) (u ∷ us) = if same_turn t u then suc (common_count ts us) else 0
common_count [] us = 0
common_count (t ∷ ts) [] = 0
