-- Paths of iterations, and where one goes on from another.
use Rattle.std.proofs.Common.{◌≡◌, ◌⊎◌, inl, inr, ℕ, ◌+◌, ◌≤◌, ◌<◌, List, [], ◌∷◌, ◌++◌, length, refl, sym, ap, ◌∙◌, arith, append_assoc, length-append}
use Rattle.std.proofs.lemmas.List.{map-append}
use Rattle.ped_store.specs.Cells.{Iteration}
use Rattle.ped_store.specs.Acts.{Turn}
use Rattle.ped_interleavings.specs.ped_eval.specs.Scopes.{Scope, turns_of}
use Rattle.ped_interleavings.specs.ped_eval.specs.Loops.{Entered, frame}
use Rattle.ped_interleavings.specs.ped_eval.specs.Agreement.{path_of}
use Rattle.ped_machine.specs.Bases.{IsLonger}
use Rattle.ped_machine.specs.Naming.{IsAmong, IsInTurn}

-- iteration k of a DO
abbrev pub turn_at : Entered → ℕ → Iteration
turn_at e k = record { statement = e.number; number = k }

pub own_path : (e : Entered) (k : ℕ) (scope : Scope) → path_of (frame e k ∷ scope) ≡ path_of scope ++ turn_at e k ∷ []
own_path e k scope = map-append (λ (t : Turn). record { statement = t.statement; number = t.number }) (turns_of scope) ((frame e k).turn ∷ [])

-- a path that begins with these goes on so
pub cancels : (p a b : List Iteration) → p ++ a ≡ p ++ b → a ≡ b
cancels [] a b e = e
cancels (i ∷ p) a b e = let t : p ++ a ≡ p ++ b = cc in cancels p a b t

pub first_same : (i k : Iteration) (a b : List Iteration) → i ∷ a ≡ k ∷ b → i ≡ k
first_same i k a b e = cc

-- two ways from the same iterations begin alike
pub begins_alike : (front : List Iteration) (i k : Iteration) (a b path : List Iteration) → path ≡ front ++ i ∷ a → path ≡ front ++ k ∷ b → i ≡ k
begins_alike front i k a b path e h = first_same i k a b (cancels front (i ∷ a) (k ∷ b) (sym e ∙ h))

-- what goes on from a path isn't before it
pub on_not_front : (front path : List Iteration) (i : Iteration) (more : List Iteration) → path ≡ front ++ i ∷ more → IsLonger path front → ⊥
on_not_front front path i more e (rest, h) =
    let a : length path ≡ length front + length (i ∷ more) = ap length e ∙ length-append front (i ∷ more) in
    let b : length front ≡ length path + length rest = ap length h ∙ length-append path rest in
    omega (arith, a, b)

pub nil_or : (i : Iteration) (p more : List Iteration) → i ∷ [] ≡ p ++ more → IsLonger p [] ⊎ (p ≡ i ∷ [])
nil_or i [] more h = inl ([], refl)
nil_or i (k ∷ []) more h = inr (let e : i ≡ k = first_same i k [] more h in λ z. sym e z ∷ [])
nil_or i (k ∷ j ∷ p) more h = absurd (let e : length (i ∷ []) ≡ length ((k ∷ j ∷ p) ++ more) = ap length h in let f = length-append (k ∷ j ∷ p) more in omega (arith, e, f))

-- a front of some iterations and one more is one of these, or all
pub front_or_whole : (q : List Iteration) (i : Iteration) (p more : List Iteration) → q ++ i ∷ [] ≡ p ++ more → IsLonger p q ⊎ (p ≡ q ++ i ∷ [])
front_or_whole [] i p more h = nil_or i p more h
front_or_whole (k ∷ q) i [] more h = inl (k ∷ q, refl)
front_or_whole (k ∷ q) i (j ∷ p) more h =
    let e : k ≡ j = first_same k j (q ++ i ∷ []) (p ++ more) h in
    let t : q ++ i ∷ [] ≡ p ++ more = cc in
    by (front_or_whole q i p more t) e
  where
    by : IsLonger p q ⊎ (p ≡ q ++ i ∷ []) → k ≡ j → IsLonger (j ∷ p) (k ∷ q) ⊎ (j ∷ p ≡ (k ∷ q) ++ i ∷ [])
    by (inl f) e = inl (f.0, λ z. e z ∷ f.1 z)
    by (inr f) e = inr (λ z. sym e z ∷ f z)

-- what the iterations of an iteration of a DO have before them is before those around it, or is its own
pub front_inside : (e : Entered) (k : ℕ) (scope : Scope) (path : List Iteration) → IsLonger path (path_of (frame e k ∷ scope)) → IsLonger path (path_of scope) ⊎ IsInTurn (path_of scope) e.number k path
front_inside e k scope path (more, h) = by (front_or_whole (path_of scope) (turn_at e k) path more (sym (own_path e k scope) ∙ h))
  where
    by : IsLonger path (path_of scope) ⊎ (path ≡ path_of scope ++ turn_at e k ∷ []) → IsLonger path (path_of scope) ⊎ IsInTurn (path_of scope) e.number k path
    by (inl f) = inl f
    by (inr f) = inr ([], f)

-- what goes on inside of an iteration is inside of it
pub among_inside : (e : Entered) (k : ℕ) (scope : Scope) (n many : ℕ) (path : List Iteration) → IsAmong (path_of (frame e k ∷ scope)) n many path → IsInTurn (path_of scope) e.number k path
among_inside e k scope n many path (i, more, h, least, less) =
    (i ∷ more, h ∙ ap (λ (q : List Iteration). q ++ i ∷ more) (own_path e k scope) ∙ append_assoc (path_of scope) (turn_at e k ∷ []) (i ∷ more))

-- an iteration of a DO is among statements of which the DO is one
pub turn_among : (front : List Iteration) (n many k : ℕ) (path : List Iteration) → 0 < many → IsInTurn front n k path → IsAmong front n many path
turn_among front n many k path some (more, h) = (record { statement = n; number = k }, more, h, omega arith, omega (arith, some))

-- among fewer statements, among more
pub among_wider : (front : List Iteration) (n many m more : ℕ) (path : List Iteration) → m ≤ n → n + many ≤ m + more → IsAmong front n many path → IsAmong front m more path
among_wider front n many m more path a b (i, rest, h, least, less) = (i, rest, h, omega (arith, a, least), omega (arith, b, less))

-- statements with other numbers have other copies
pub among_apart : (front : List Iteration) (n many m more : ℕ) (path : List Iteration) → n + many ≤ m → IsAmong front n many path → IsAmong front m more path → ⊥
among_apart front n many m more path a (i, x, h, least, less) (k, y, g, most, great) =
    let e : i.statement ≡ k.statement = ap (λ (j : Iteration). j.statement) (begins_alike front i k x y path h g) in
    omega (arith, a, less, most, e)

-- different iterations of a DO have different copies
pub turn_same : (front : List Iteration) (n k j : ℕ) (path : List Iteration) → IsInTurn front n k path → IsInTurn front n j path → k ≡ j
turn_same front n k j path (x, h) (y, g) =
    ap (λ (i : Iteration). i.number) (begins_alike front (record { statement = n; number = k }) (record { statement = n; number = j }) x y path h g)

pub among_not_front : (front : List Iteration) (n many : ℕ) (path : List Iteration) → IsAmong front n many path → IsLonger path front → ⊥
among_not_front front n many path (i, more, h, least, less) f = on_not_front front path i more h f

pub turn_not_front : (front : List Iteration) (n k : ℕ) (path : List Iteration) → IsInTurn front n k path → IsLonger path front → ⊥
turn_not_front front n k path (more, h) f = on_not_front front path (record { statement = n; number = k }) more h f
