-- Copies inside two loops, one in the other, and their names where the loops are in each other's place.
use Rattle.std.proofs.Common.{Bool, List, None, Option, Some, [], ap, arith, eqb, eqb-true, false, if◌then◌else◌, inl, inr, refl, subst, sym, true, ℕ, ◌&&◌, ◌++◌, ◌+◌, ◌-◌, ◌<◌, ◌∙◌, ◌∷◌, ◌≡◌, ◌≤◌, ◌⊎◌}
use Rattle.std.proofs.lemmas.Bool.{and_parts}
use Rattle.std.proofs.lemmas.Bool.Decides.{nat_tests}
use Rattle.std.specs.Prelude.{nat_le}
use Rattle.ped_rules.proofs.NestLaws.PairOrders.{IsRegrouped}
use Rattle.ped_loop_runs.proofs.LoopLaws.OneForOneCells.{IsOfLoop, own_lies}
use Rattle.ped_loop_runs.specs.ped_bodies.proofs.BodyLaws.MovedCells.{behind_itself, moved_is, place_stays}
use Rattle.ped_loop_runs.specs.ped_bodies.proofs.BodyLaws.NamesApart.{interchanged_apart, behind_is}
use Rattle.ped_loop_runs.specs.ped_bodies.specs.Moving.{IsOfPairs, LiesBehind, TellNumbers, behind_front, is_cell_among, moved_behind, transposed, with_rest}
use Rattle.ped_loop_runs.proofs.PastingLaws.LeftCopies.{IsOwn}
use Rattle.ped_loop_runs.specs.ped_eval.specs.Scopes.{Scope, Setting, cell_of, turns_of}
use Rattle.ped_loop_runs.specs.ped_store.specs.Acts.{iterations_of}
use Rattle.ped_loop_runs.specs.ped_store.specs.Cells.{Cell, Element, In, Iteration, Out, Private, Scalar}
use Rattle.ped_loop_runs.proofs.LoopLaws.ApartTurns.{number_itself}

all_four : (m n k j : ℕ) → (nat_le 1 k && nat_le k m) && (nat_le 1 j && nat_le j n) ≡ true → (1 ≤ k) × (k ≤ m) × (1 ≤ j) × (j ≤ n)
all_four m n k j h =
    let parts = and_parts (nat_le 1 k && nat_le k m) (nat_le 1 j && nat_le j n) h in
    let one = and_parts (nat_le 1 k) (nat_le k m) parts.0 in
    let two = and_parts (nat_le 1 j) (nat_le j n) parts.1 in
    (least 1 k one.0, least k m one.1, least 1 j two.0, least j n two.1)
  where
    least : (a b : ℕ) → nat_le a b ≡ true → a ≤ b
    least a b is = grind (arith, nat_tests)

four_all : (m n k j : ℕ) → 1 ≤ k → k ≤ m → 1 ≤ j → j ≤ n → (nat_le 1 k && nat_le k m) && (nat_le 1 j && nat_le j n) ≡ true
four_all m n k j a b c d = λ i. (so 1 k a i && so k m b i) && (so 1 j c i && so j n d i)
  where
    so : (x y : ℕ) → x ≤ y → nat_le x y ≡ true
    so x y h = grind (arith, nat_tests)

module _ (p : Setting) (scope : Scope) (l : ℕ) (n m : ℕ) (row column later below : ℕ → ℕ) (same : IsRegrouped n m row column later below) where
  abbrev pub its_front : List Iteration
  its_front = iterations_of (turns_of scope)

  -- the numbers of a pair of iterations where the loops are in each other's place
  abbrev pub new_outer_number : ℕ → ℕ → ℕ
  new_outer_number i j = later i + j

  abbrev pub new_inner_number : ℕ → ℕ → ℕ
  new_inner_number i j = i - below (later i + j)

  abbrev pub swap : List Iteration → List Iteration
  swap = transposed (p.number l) (p.number (l + 1)) new_outer_number new_inner_number

  abbrev pub swapped_names : Cell → Cell
  swapped_names = moved_behind its_front swap

  abbrev at : ℕ → Iteration
  at k = record { statement = p.number l; number = k }

  abbrev inside_at : ℕ → Iteration
  inside_at k = record { statement = p.number (l + 1); number = k }

  pub swapped_idle : (variables : List (List ℕ)) (c : Cell) → is_cell_among variables (swapped_names c) ≡ is_cell_among variables c
  swapped_idle variables (Scalar x) = refl
  swapped_idle variables (Private x path) = refl
  swapped_idle variables (Element x js) = refl
  swapped_idle variables In = refl
  swapped_idle variables Out = refl

  pub swapped_stay : (x : List ℕ) → swapped_names (cell_of scope x) ≡ cell_of scope x
  swapped_stay x = place_stays swap refl scope x

  swap_is : (i j : Iteration) (more : List Iteration) (b : Bool) → eqb i.statement (p.number l) ≡ b
      → swap (i ∷ (j ∷ more)) ≡ (if b then at (new_outer_number i.number j.number) ∷ (inside_at (new_inner_number i.number j.number) ∷ more) else i ∷ (j ∷ more))
  swap_is i j more b e = ap (λ (r : Bool). if r then at (new_outer_number i.number j.number) ∷ (inside_at (new_inner_number i.number j.number) ∷ more) else i ∷ (j ∷ more)) e

  -- a cell keeps its name, or is a copy inside the outer loop
  pub swapped_or_stays : (c : Cell) → (swapped_names c ≡ c) ⊎ IsOfLoop p scope l c
  swapped_or_stays (Scalar x) = inl refl
  swapped_or_stays (Element x js) = inl refl
  swapped_or_stays In = inl refl
  swapped_or_stays Out = inl refl
  swapped_or_stays (Private x path) = go (behind_front its_front path) refl
    where
      renamed : (o : Option (List Iteration)) → behind_front its_front path ≡ o → swapped_names (Private x path) ≡ Private x (with_rest its_front swap path o)
      renamed o e = ap (λ (r : Option (List Iteration)). Private x (with_rest its_front swap path r)) e

      stays : (rest : List Iteration) → behind_front its_front path ≡ Some rest → swap rest ≡ rest → swapped_names (Private x path) ≡ Private x path
      stays rest e q = renamed (Some rest) e ∙ ap (λ (r : List Iteration). Private x (its_front ++ r)) q ∙ ap (Private x) (sym (behind_is its_front path rest e))

      by : (i j : Iteration) (more : List Iteration) → behind_front its_front path ≡ Some (i ∷ (j ∷ more)) → (b : Bool) → eqb i.statement (p.number l) ≡ b → (swapped_names (Private x path) ≡ Private x path) ⊎ IsOfLoop p scope l (Private x path)
      by i j more e true q =
          let statement : i.statement ≡ p.number l = eqb-true i.statement (p.number l) q in
          inr (record { name = x; number = i.number; rest = j ∷ more; is = ap (Private x) (behind_is its_front path (i ∷ (j ∷ more)) e ∙ (λ k. its_front ++ record { statement = statement k; number = i.number } ∷ (j ∷ more))) })
      by i j more e false q = inl (stays (i ∷ (j ∷ more)) e (swap_is i j more false q))

      go : (o : Option (List Iteration)) → behind_front its_front path ≡ o → (swapped_names (Private x path) ≡ Private x path) ⊎ IsOfLoop p scope l (Private x path)
      go None e = inl (renamed None e)
      go (Some []) e = inl (stays [] e refl)
      go (Some (i ∷ [])) e = inl (stays (i ∷ []) e refl)
      go (Some (i ∷ (j ∷ more))) e = by i j more e (eqb i.statement (p.number l)) refl

  -- and is called as one
  pub swapped_inside : (c : Cell) → IsOfLoop p scope l c → IsOfLoop p scope l (swapped_names c)
  swapped_inside c k = by k.rest k.is
    where
      by : (rest : List Iteration) → c ≡ Private k.name (its_front ++ at k.number ∷ rest) → IsOfLoop p scope l (swapped_names c)
      by [] e = record { name = k.name; number = k.number; rest = []; is = ap swapped_names e ∙ moved_is swap its_front (at k.number ∷ []) k.name }
      by (j ∷ more) e = record {
        name = k.name;
        number = new_outer_number k.number j.number;
        rest = inside_at (new_inner_number k.number j.number) ∷ more;
        is = ap swapped_names e ∙ moved_is swap its_front (at k.number ∷ (j ∷ more)) k.name ∙ ap (λ (r : List Iteration). Private k.name (its_front ++ r)) (swap_is (at k.number) j more true (number_itself (p.number l)));
      }

  -- a copy inside a pair of iterations
  pub record IsOfPair (c : Cell) : Type 0 where
    pub outer : ℕ
    pub inner : ℕ
    pub from : 1 ≤ outer
    pub to : outer ≤ n
    pub inner_from : 1 ≤ inner
    pub inner_to : inner ≤ row outer
    pub name : List ℕ
    pub rest : List Iteration
    pub is : c ≡ Private name (its_front ++ at outer ∷ (inside_at inner ∷ rest))

  -- what names stand for at the place, and such copies
  abbrev pub PairReached : Cell → Type 0
  PairReached c = IsOwn p scope c ⊎ IsOfPair c

  abbrev done : ℕ → ℕ → Bool
  done i j = (nat_le 1 i && nat_le i n) && (nat_le 1 j && nat_le j (row i))

  abbrev Pairs : Option (List Iteration) → Type 0
  Pairs = IsOfPairs (p.number l) (p.number (l + 1)) done

  -- the new numbers tell the old ones
  tell : TellNumbers done new_outer_number new_inner_number
  tell i j k q f g columns rows =
      let a = all_four n (row i) i j f in
      let b = all_four n (row k) k q g in
      let one = same.forth i j a.0 a.1 a.2 a.3 in
      let two = same.forth k q b.0 b.1 b.2 b.3 in
      let under = one.1 in
      let over : below (later i + j) < k = subst (λ (z : ℕ). below z < k) (sym columns) two.1 in
      let numbers : i - below (later i + j) ≡ k - below (later i + j) = rows ∙ ap (λ (z : ℕ). k - below z) (sym columns) in
      let first : i ≡ k = omega (arith, under, over, numbers) in
      let second : later i + j ≡ later i + q = columns ∙ ap (λ (z : ℕ). later z + q) (sym first) in
      (first, omega (arith, second))

  lies : (c : Cell) → PairReached c → LiesBehind Pairs its_front c
  lies c (inl own) = own_lies p scope Pairs tt tt c own
  lies c (inr r) =
      subst (LiesBehind Pairs its_front) (sym r.is)
      (subst Pairs (sym (behind_itself its_front (at r.outer ∷ (inside_at r.inner ∷ r.rest)))) (refl, refl, four_all n (row r.outer) r.outer r.inner r.from r.to r.inner_from r.inner_to))

  -- no two of them get one name
  pub swapped_apart : (c d : Cell) → PairReached c → PairReached d → swapped_names c ≡ swapped_names d → c ≡ d
  swapped_apart c d u v e = interchanged_apart (p.number l) (p.number (l + 1)) done new_outer_number new_inner_number tell its_front c d (lies c u) (lies d v) e
