-- Statements that are turned one by one.
use Rattle.std.proofs.Common.{◌≡◌, ℕ, ◌+◌, ◌<◌, List, [], ◌∷◌, ◌++◌, length, drop, Bool, false, Option, sym, ap, ◌∙◌, suc, zero, append_assoc, append-nil, arith}
use Rattle.std.specs.Prelude.{get_or}
use Rattle.ped_tree.specs.Grammar.Items.{Entry}
use Rattle.ped_units.specs.Forms.{Called}
use Rattle.ped_units.specs.Reading.{UnitEntry, is_end_next, as_entries, stand_in}
use Rattle.ped_units.specs.Refusals.{call_in}
use Rattle.ped_units.specs.Seeing.{ends_next, seen_as, calls_in_entries}

-- something is left only before the end
pub left_below : (n : ℕ) (bs : List Bool) (b : Bool) (more : List Bool) → drop n bs ≡ b ∷ more → n < length bs
left_below n [] b more h = absurd (nothing n h)
  where
    nothing : (m : ℕ) → drop m [] ≡ b ∷ more → ⊥
    nothing zero k = absurd cc
    nothing (suc m) k = absurd cc
left_below zero (c ∷ bs) b more h = omega arith
left_below (suc n) (c ∷ bs) b more h = let below = left_below n bs b more h in omega (arith, below)

-- what comes next is known of the first that is left, and of those behind it
known : (bs : List Bool) (place : ℕ) (b : Bool) (e : UnitEntry) (left rest : List UnitEntry) → drop place bs ≡ ends_next left → left ≡ e ∷ rest → drop place bs ≡ b ∷ drop (place + 1) bs → b ∷ drop (place + 1) bs ≡ is_end_next rest ∷ ends_next rest
known bs place b e left rest h l first = sym first ∙ h ∙ ap ends_next l

pub ends_more : (bs : List Bool) (place : ℕ) (b : Bool) (e : UnitEntry) (left rest : List UnitEntry) → drop place bs ≡ ends_next left → left ≡ e ∷ rest → drop place bs ≡ b ∷ drop (place + 1) bs → drop (place + 1) bs ≡ ends_next rest
ends_more bs place b e left rest h l first = ap (drop 1) (known bs place b e left rest h l first)

-- one more is turned
pub seen_more : (in_subroutine : Bool) (done whole next : List Entry) (bs : List Bool) (place : ℕ) (b : Bool) (e : UnitEntry) (left rest : List UnitEntry) → done ++ as_entries stand_in in_subroutine left ≡ whole → drop place bs ≡ ends_next left → left ≡ e ∷ rest
    → drop place bs ≡ b ∷ drop (place + 1) bs → next ≡ done ++ seen_as in_subroutine b e ∷ [] → next ++ as_entries stand_in in_subroutine rest ≡ whole
seen_more in_subroutine done whole next bs place b e left rest before h l first n =
    let same : b ≡ is_end_next rest = ap (λ (xs : List Bool). get_or xs 0 false) (known bs place b e left rest h l first) in
    ap (λ (xs : List Entry). xs ++ as_entries stand_in in_subroutine rest) n
    ∙ append_assoc done (seen_as in_subroutine b e ∷ []) (as_entries stand_in in_subroutine rest)
    ∙ ap (λ (x : Bool). done ++ seen_as in_subroutine x e ∷ as_entries stand_in in_subroutine rest) same
    ∙ ap (λ (es : List UnitEntry). done ++ as_entries stand_in in_subroutine es) (sym l)
    ∙ before

-- its CALL is kept
pub calls_more : (done whole next : List (Option Called)) (e : UnitEntry) (left rest : List UnitEntry) → done ++ calls_in_entries left ≡ whole → left ≡ e ∷ rest → next ≡ done ++ call_in e.item ∷ [] → next ++ calls_in_entries rest ≡ whole
calls_more done whole next e left rest before l n =
    ap (λ (xs : List (Option Called)). xs ++ calls_in_entries rest) n
    ∙ append_assoc done (call_in e.item ∷ []) (calls_in_entries rest)
    ∙ ap (λ (es : List UnitEntry). done ++ calls_in_entries es) (sym l)
    ∙ before

-- none is left
pub all_seen : (in_subroutine : Bool) (done whole : List Entry) (left : List UnitEntry) → done ++ as_entries stand_in in_subroutine left ≡ whole → left ≡ [] → done ≡ whole
all_seen in_subroutine done whole left before l = sym (append-nil done) ∙ ap (λ (es : List UnitEntry). done ++ as_entries stand_in in_subroutine es) (sym l) ∙ before

pub all_calls : (done whole : List (Option Called)) (left : List UnitEntry) → done ++ calls_in_entries left ≡ whole → left ≡ [] → done ≡ whole
all_calls done whole left before l = sym (append-nil done) ∙ ap (λ (es : List UnitEntry). done ++ calls_in_entries es) (sym l) ∙ before
