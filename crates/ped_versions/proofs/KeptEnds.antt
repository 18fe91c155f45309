-- The statements that an edit keeps stand one to one.
use Rattle.std.proofs.Common.{◌≡◌, ℕ, zero, suc, ◌+◌, ◌-◌, ◌<◌, ◌≤◌, List, [], ◌∷◌, ◌++◌, map, take, drop, Bool, true, false, cond, is_some, refl, subst, arith}
use Rattle.std.specs.Prelude.{AllPairs, ◌≢◌}
use Rattle.std.specs.List.{AllByRecursion, count_by, range_with_len}
use Rattle.std.proofs.lemmas.List.Elements.{All-from_recursion}
use Rattle.std.proofs.lemmas.List.Kept.{AllPairs-cons}
use Rattle.std.proofs.lemmas.List.Recursion.{is_count_by}
use Rattle.ped_tree.specs.Tree.{ProgramTree}
use Rattle.ped_tree.specs.Numbering.{statements_count}
use Rattle.ped_tree.specs.Printing.{Line, begun_in, program_lines}
use Rattle.ped_print.proofs.Begins.{of_program}
use Rattle.ped_update.specs.ped_graph.specs.Keeping.{IsOneToOne}
use Rattle.ped_versions.specs.Splices.{kept_front, kept_back, kept_ends, edit_keep}

-- both numbers rise, from one pair up to another
abbrev Rise : ℕ → ℕ → ℕ → ℕ → List (ℕ × ℕ) → Type 0
Rise a b c d [] = (a ≤ c) × (b ≤ d)
Rise a b c d (p ∷ ps) = (a < p.0) × (b < p.1) × Rise p.0 p.1 c d ps

lower : (x y a b c d : ℕ) (ps : List (ℕ × ℕ)) → x ≤ a → y ≤ b → Rise a b c d ps → Rise x y c d ps
lower x y a b c d [] e f h = let l = h.0 in let m = h.1 in (omega (arith, e, l), omega (arith, f, m))
lower x y a b c d (p ∷ ps) e f h = let l = h.0 in let m = h.1 in (omega (arith, e, l), omega (arith, f, m), h.2)

joined : (a b c d e f : ℕ) (ps qs : List (ℕ × ℕ)) → Rise a b c d ps → Rise c d e f qs → Rise a b e f (ps ++ qs)
joined a b c d e f [] qs h k = lower a b c d e f qs h.0 h.1 k
joined a b c d e f (p ∷ ps) qs h k = (h.0, h.1, joined p.0 p.1 c d e f ps qs h.2 k)

-- numbers one behind the other
counted_up : (a b k n x y c d : ℕ) → x + 1 ≡ a + k → y + 1 ≡ b + k → c ≡ x + n → d ≡ y + n → Rise x y c d (map (λ j. (a + j, b + j)) (range_with_len k n))
counted_up a b k zero x y c d e f g h = (omega (arith, g), omega (arith, h))
counted_up a b k (suc n) x y c d e f g h =
    (omega (arith, e), omega (arith, f), counted_up a b (k + 1) n (a + k) (b + k) c d (omega arith) (omega arith) (omega (arith, e, g)) (omega (arith, f, h)))

same_map : {X Y : Type 0} (f g : X → Y) → ((x : X) → f x ≡ g x) → (xs : List X) → map f xs ≡ map g xs
same_map f g same [] = refl
same_map f g same (x ∷ xs) = λ i. same x i ∷ same_map f g same xs i

plain_pair : (j : ℕ) → ◌≡◌ {A = ℕ × ℕ} (0 + j, 0 + j) (j, j)
plain_pair j = let e : 0 + j ≡ j = omega arith in λ i. (e i, e i)

all_later : (a b c d : ℕ) (ps : List (ℕ × ℕ)) → Rise a b c d ps → AllByRecursion (λ (q : ℕ × ℕ). (a < q.0) × (b < q.1)) ps
all_later a b c d [] h = tt
all_later a b c d (p ∷ ps) h = ((h.0, h.1), all_later a b c d ps (let l = h.0 in let m = h.1 in lower a b p.0 p.1 c d ps (omega (arith, l)) (omega (arith, m)) h.2))

told : {X : Type 0} (P Q : X → Type 0) → ((x : X) → P x → Q x) → (xs : List X) → AllByRecursion P xs → AllByRecursion Q xs
told P Q g [] h = tt
told P Q g (x ∷ xs) h = (g x h.0, told P Q g xs h.1)

firsts : (a b c d : ℕ) (ps : List (ℕ × ℕ)) → Rise a b c d ps → AllPairs (λ p q. p.0 ≢ q.0) ps
firsts a b c d [] h = λ i j e less below. absurd (omega (arith, below))
firsts a b c d (p ∷ ps) h =
    AllPairs-cons (λ (x y : ℕ × ℕ). x.0 ≢ y.0) p ps
    (All-from_recursion _ ps (told (λ (q : ℕ × ℕ). (p.0 < q.0) × (p.1 < q.1)) (λ (q : ℕ × ℕ). p.0 ≢ q.0) (λ (q : ℕ × ℕ) later (same : p.0 ≡ q.0). let l = later.0 in omega (arith, l, same)) ps (all_later p.0 p.1 c d ps h.2))) (firsts p.0 p.1 c d ps h.2)

seconds : (a b c d : ℕ) (ps : List (ℕ × ℕ)) → Rise a b c d ps → AllPairs (λ p q. p.1 ≢ q.1) ps
seconds a b c d [] h = λ i j e less below. absurd (omega (arith, below))
seconds a b c d (p ∷ ps) h =
    AllPairs-cons (λ (x y : ℕ × ℕ). x.1 ≢ y.1) p ps
    (All-from_recursion _ ps (told (λ (q : ℕ × ℕ). (p.0 < q.0) × (p.1 < q.1)) (λ (q : ℕ × ℕ). p.1 ≢ q.1) (λ (q : ℕ × ℕ) later (same : p.1 ≡ q.1). let l = later.1 in omega (arith, l, same)) ps (all_later p.0 p.1 c d ps h.2))) (seconds p.0 p.1 c d ps h.2)

-- so many at the front and so many at the back, where they don't meet
pub ends_one_to_one : (n m front back : ℕ) → front + back ≤ n → front + back ≤ m → IsOneToOne (kept_ends n m front back)
ends_one_to_one n m front back e f =
    let plain = same_map (λ (j : ℕ). (0 + j, 0 + j)) (λ (j : ℕ). (j, j)) plain_pair (range_with_len 1 front) in
    let first = subst (λ (ps : List (ℕ × ℕ)). Rise 0 0 front front ps) plain (counted_up 0 0 1 front 0 0 front front (omega arith) (omega arith) (omega arith) (omega arith)) in
    let last = lower front front (n - back) (m - back) n m _ (omega (arith, e)) (omega (arith, f)) (counted_up (n - back) (m - back) 1 back (n - back) (m - back) n m (omega arith) (omega arith) (omega (arith, e)) (omega (arith, f))) in
    let all = joined 0 0 front front n m _ _ first last in
    record { before = firsts 0 0 n m _ all; behind = seconds 0 0 n m _ all }

-- how many pass a test
abbrev counted : {X : Type 0} → (X → Bool) → List X → ℕ
counted test [] = 0
counted test (x ∷ xs) = cond (test x) (1 + counted test xs) (counted test xs)

as_counted : {X : Type 0} (test : X → Bool) (xs : List X) → counted test xs ≡ count_by test xs
as_counted test xs = is_count_by (counted test) test refl (λ x ys. refl) xs

fewer : {X : Type 0} (test : X → Bool) (xs : List X) (n : ℕ) → counted test (drop n xs) ≤ counted test xs
fewer test [] zero = omega arith
fewer test [] (suc n) = omega arith
fewer test (x ∷ xs) zero = omega arith
fewer test (x ∷ xs) (suc n) = go (test x) (fewer test xs n)
  where
    go : (t : Bool) → counted test (drop n xs) ≤ counted test xs → counted test (drop n xs) ≤ cond t (1 + counted test xs) (counted test xs)
    go true e = omega (arith, e)
    go false e = e

both_ends : {X : Type 0} (test : X → Bool) (xs : List X) (a c : ℕ) → a ≤ c → counted test (take a xs) + counted test (drop c xs) ≤ counted test xs
both_ends test [] zero zero h = omega arith
both_ends test [] zero (suc c) h = omega arith
both_ends test [] (suc a) zero h = omega arith
both_ends test [] (suc a) (suc c) h = omega arith
both_ends test (x ∷ xs) zero c h = let e = fewer test (x ∷ xs) c in omega (arith, e)
both_ends test (x ∷ xs) (suc a) zero h = absurd (omega (arith, h))
both_ends test (x ∷ xs) (suc a) (suc c) h = go (test x) (both_ends test xs a c (omega (arith, h)))
  where
    go : (t : Bool) → counted test (take a xs) + counted test (drop c xs) ≤ counted test xs
        → cond t (1 + counted test (take a xs)) (counted test (take a xs)) + counted test (drop c xs) ≤ cond t (1 + counted test xs) (counted test xs)
    go true e = omega (arith, e)
    go false e = e

-- no more statements begin on lines at both ends than there are
pub few_begun : (t : ProgramTree) (kept gone : ℕ) → begun_in (take kept (program_lines t)) + begun_in (drop (kept + gone) (program_lines t)) ≤ statements_count t.body
few_begun t kept gone =
    let ls = program_lines t in
    let all = both_ends (λ (l : Line). is_some l.statement) ls kept (kept + gone) (omega arith) in
    let front = as_counted (λ (l : Line). is_some l.statement) (take kept ls) in
    let back = as_counted (λ (l : Line). is_some l.statement) (drop (kept + gone) ls) in
    let whole = as_counted (λ (l : Line). is_some l.statement) ls in
    let count = of_program t in
    omega (arith, all, front, back, whole, count)

pub few_kept : (old new : ProgramTree) (kept gone : ℕ) → (kept_front old new kept + kept_back old new kept gone ≤ statements_count old.body) × (kept_front old new kept + kept_back old new kept gone ≤ statements_count new.body)
few_kept old new kept gone = let few = few_begun old kept gone in (omega (arith, few), omega arith)

-- the statements that an edit keeps stand one to one
pub edit_one_to_one : (old new : ProgramTree) (kept gone : ℕ) → IsOneToOne (edit_keep old new kept gone)
edit_one_to_one old new kept gone =
    let few = few_kept old new kept gone in
    ends_one_to_one (statements_count old.body) (statements_count new.body) (kept_front old new kept) (kept_back old new kept gone) few.0 few.1
