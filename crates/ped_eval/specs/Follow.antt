-- Chains of states over a list (this project).
use Rattle.std.specs.Prelude.{◌≡◌, List, [], ◌∷◌}

-- the states follow one another over a list by a relation: each item leads from one state to the next, from the first state to the last one (this project)
abbrev pub Follow : {W A : Type 0} → (W → A → W → Type 0) → W → List A → W → Type 0
Follow follows w [] v = v ≡ w
Follow follows w (a ∷ more) v = (u : _) × follows w a u × Follow follows u more v
