-- `fuse` makes one program, keeps each statement but one in its own place, and has one first cause at most.
use Rattle.std.proofs.Common.{◌≡◌, ◌⊎◌, ℕ, zero, suc, ◌+◌, ◌-◌, ◌<◌, ◌≤◌, ◌==◌, nat_lt, nat_le, ◌&&◌, List, [], ◌∷◌, ◌++◌, map, filter, cond, Bool, true, false, not, if◌then◌else◌, All, AllPairs, Option, Some, None, inl, inr, refl, sym, ap, subst, ◌∙◌, arith, eq-eqb, lt-ltb, le-ltb}
use Rattle.std.specs.Prelude.{◌≢◌}
use Rattle.std.specs.List.{range_with_len}
use Rattle.std.proofs.lemmas.Bool.{both_ways, cases_lt}
use Rattle.std.proofs.lemmas.List.Elements.{All-nil, All-cons, All-head, All-tail}
use Rattle.std.proofs.lemmas.List.Kept.{AllPairs-cons}
use Rattle.ped_tree.specs.Numbering.{statements_count}
use Rattle.ped_tree.specs.Tree.{Do, ProgramTree}
use Rattle.ped_rules.specs.Carried.{carried}
use Rattle.ped_rules.specs.ped_steps.proofs.OneCause.{one_cause}
use Rattle.ped_rules.specs.ped_steps.specs.Causes.{Cause, rule, dependence, IsFirstForbidding, none_forbids}
use Rattle.ped_rules.specs.ped_steps.specs.Replacing.{followed, alone}
use Rattle.ped_rules.specs.ped_steps.specs.Runs.Gaps.{filled}
use Rattle.ped_rules.specs.ped_graph.proofs.OnePane.{one_edges_of_pairs}
use Rattle.ped_rules.specs.ped_graph.specs.Dependences.{EdgesOfPairs}
use Rattle.ped_rules.specs.ped_graph.specs.Keeping.{IsOneToOne}
use Rattle.ped_edges.specs.Edges.{Edge}
use Rattle.ped_refs.specs.References.{Reference, references, pairs}
use Rattle.ped_splits.specs.Neighbours.{Neighbour, joined_head, renamed_body, fused, next_number, kept_without}
use Rattle.ped_rules.specs.KeepMaps.{closed_up}
use Rattle.ped_splits.specs.Fusing.{Match, MakesFused, StandsAgainstFusion, AreBack, forbids_fusion, with_present_numbers, IsFusionCause}
use Rattle.ped_splits.proofs.PiBlockOrders.{all_by}
use Rattle.ped_splits.proofs.FuseRules.{chain}
use Rattle.ped_splits.proofs.NeighbourFound.{Found, found_of, one_neighbour}

-- the new program and the number of the second DO, by what is found
abbrev pub fused_at : ProgramTree → Found → ProgramTree
fused_at t f = record { decls = t.decls; body = filled f.gap (alone (Do (joined_head f.own f.next) (followed f.own_body (followed f.between (renamed_body f.own f.next f.next_body))))) }

abbrev pub number_behind : ℕ → Found → ℕ
number_behind s f = s + 1 + statements_count f.own_body

module _ (t : ProgramTree) (s : ℕ) where
  pub same_fused : (x y : Neighbour t s) → fused x ≡ fused y
  same_fused x y = ap (fused_at t) (one_neighbour t s x y)

  pub same_next : (x y : Neighbour t s) → next_number x ≡ next_number y
  same_next x y = ap (number_behind s) (one_neighbour t s x y)

pub one_made : (s : ℕ) (t new other : ProgramTree) (keep more : List (ℕ × ℕ)) → MakesFused s t new keep → MakesFused s t other more → (new ≡ other) × (keep ≡ more)
one_made s t new other keep more p q =
    let same = one_neighbour t s p.0.neighbour q.0.neighbour in (
      p.1 ∙ (ap (fused_at t) same ∙ sym q.1),
      p.2 ∙ (ap (λ (f : Found). kept_without (number_behind s f) t) same ∙ sym q.2),
    )

-- a statement that isn't the second DO, with its new number
record IsRow (m a : ℕ) (q : ℕ × ℕ) : Type 0 where
  from : a ≤ q.0
  other : (q.0 == m) ≡ false
  behind : q.1 ≡ closed_up m q.0

abbrev row : ℕ → ℕ → ℕ × ℕ
row m k = (k, closed_up m k)

abbrev is_kept : ℕ → ℕ → Bool
is_kept m k = not (k == m)

abbrev rows : ℕ → List ℕ → List (ℕ × ℕ)
rows m ks = map (row m) (filter (is_kept m) ks)

abbrev taken : (m a : ℕ) → Bool → List ℕ → List (ℕ × ℕ)
taken m a b ks = map (row m) (cond (not b) (a ∷ filter (is_kept m) ks) (filter (is_kept m) ks))

later_rows : (m a n : ℕ) → All (IsRow m a) (rows m (range_with_len a n))
later_rows m a zero = All-nil (IsRow m a)
later_rows m a (suc n) = by (a == m) refl (all_by (IsRow m (a + 1)) (IsRow m a) (rows m (range_with_len (a + 1) n)) (λ q r. record { from = let h = r.from in omega (arith, h); other = r.other; behind = r.behind }) (later_rows m (a + 1) n))
  where
    by : (b : Bool) → (a == m) ≡ b → All (IsRow m a) (rows m (range_with_len (a + 1) n)) → All (IsRow m a) (taken m a b (range_with_len (a + 1) n))
    by true e rest = rest
    by false e rest = All-cons (IsRow m a) (row m a) (rows m (range_with_len (a + 1) n)) (record { from = omega arith; other = e; behind = refl }) rest

further : (m k : ℕ) → (k == m) ≡ false → m ≤ k → m < k
further m k f le = by (cases_lt m k)
  where
    by : (m < k) ⊎ (k ≤ m) → m < k
    by (inl lt) = lt
    by (inr ge) = absurd (both_ways (k == m) f (eq-eqb k m (omega (arith, le, ge))))

below_is : (m k : ℕ) → k < m → closed_up m k ≡ k
below_is m k h = by (nat_lt k m) (lt-ltb k m h)
  where
    by : (b : Bool) → b ≡ true → (if b then k else k - 1) ≡ k
    by true e = refl
    by false e = absurd cc

above_is : (m k : ℕ) → m ≤ k → closed_up m k ≡ k - 1
above_is m k h = by (nat_lt k m) (le-ltb k m h)
  where
    by : (b : Bool) → b ≡ false → (if b then k else k - 1) ≡ k - 1
    by true e = absurd cc
    by false e = refl

-- two numbers one behind the other stay apart
stays_apart : (m a k : ℕ) → (a == m) ≡ false → (k == m) ≡ false → a < k → closed_up m a ≡ closed_up m k → ⊥
stays_apart m a k e f less same = by (cases_lt a m) (cases_lt k m)
  where
    by : (a < m) ⊎ (m ≤ a) → (k < m) ⊎ (m ≤ k) → ⊥
    by (inl low) (inl below) = let p = below_is m a low in let q = below_is m k below in omega (arith, p, q, less, same)
    by (inl low) (inr above) = let p = below_is m a low in let q = above_is m k above in let r = further m k f above in omega (arith, p, q, r, low, same)
    by (inr high) (inl below) = omega (arith, high, below, less)
    by (inr high) (inr above) = let p = above_is m a high in let q = above_is m k above in let r = further m a e high in omega (arith, p, q, r, less, same)

rows_before : (m a n : ℕ) → AllPairs (λ (p : ℕ × ℕ) (q : ℕ × ℕ). p.0 ≢ q.0) (rows m (range_with_len a n))
rows_before m a zero = λ i j d less within. absurd (omega (arith, within))
rows_before m a (suc n) = by (a == m) refl (rows_before m (a + 1) n)
  where
    by : (b : Bool) → (a == m) ≡ b → AllPairs (λ (p : ℕ × ℕ) (q : ℕ × ℕ). p.0 ≢ q.0) (rows m (range_with_len (a + 1) n)) → AllPairs (λ (p : ℕ × ℕ) (q : ℕ × ℕ). p.0 ≢ q.0) (taken m a b (range_with_len (a + 1) n))
    by true e rest = rest
    by false e rest =
        AllPairs-cons (λ (p : ℕ × ℕ) (q : ℕ × ℕ). p.0 ≢ q.0) (row m a) (rows m (range_with_len (a + 1) n))
        (all_by (IsRow m (a + 1)) (λ (q : ℕ × ℕ). a ≢ q.0) (rows m (range_with_len (a + 1) n)) (λ q r same. let h = r.from in omega (arith, h, same)) (later_rows m (a + 1) n))
        rest

rows_behind : (m a n : ℕ) → AllPairs (λ (p : ℕ × ℕ) (q : ℕ × ℕ). p.1 ≢ q.1) (rows m (range_with_len a n))
rows_behind m a zero = λ i j d less within. absurd (omega (arith, within))
rows_behind m a (suc n) = by (a == m) refl (rows_behind m (a + 1) n)
  where
    by : (b : Bool) → (a == m) ≡ b → AllPairs (λ (p : ℕ × ℕ) (q : ℕ × ℕ). p.1 ≢ q.1) (rows m (range_with_len (a + 1) n)) → AllPairs (λ (p : ℕ × ℕ) (q : ℕ × ℕ). p.1 ≢ q.1) (taken m a b (range_with_len (a + 1) n))
    by true e rest = rest
    by false e rest =
        AllPairs-cons (λ (p : ℕ × ℕ) (q : ℕ × ℕ). p.1 ≢ q.1) (row m a) (rows m (range_with_len (a + 1) n))
        (all_by (IsRow m (a + 1)) (λ (q : ℕ × ℕ). closed_up m a ≢ q.1) (rows m (range_with_len (a + 1) n))
        (λ q r same. stays_apart m a q.0 e r.other (let h = r.from in omega (arith, h)) (same ∙ r.behind)) (later_rows m (a + 1) n))
        rest

pub one_to_one : (s : ℕ) (t new : ProgramTree) (keep : List (ℕ × ℕ)) → MakesFused s t new keep → IsOneToOne keep
one_to_one s t new keep made =
    let m = next_number made.0.neighbour in
    subst IsOneToOne (sym made.2) (record { before = rows_before m 1 (statements_count t.body); behind = rows_behind m 1 (statements_count t.body) })

-- one that forbids isn't among those that don't
forbids_not : (forbids : Edge → Bool) (front behind : List Edge) (e : Edge) → forbids e ≡ true → All (λ f. forbids f ≡ false) (front ++ e ∷ behind) → ⊥
forbids_not forbids [] behind e does all = let doesnt : forbids e ≡ false = All-head (λ f. forbids f ≡ false) e behind all in absurd cc
forbids_not forbids (f ∷ front) behind e does all = forbids_not forbids front behind e does (All-tail (λ f. forbids f ≡ false) f (front ++ e ∷ behind) all)

head_is : (e f : Edge) (es fs : List Edge) → e ∷ es ≡ f ∷ fs → e ≡ f
head_is e f es fs h = cc

tail_is : (e f : Edge) (es fs : List Edge) → e ∷ es ≡ f ∷ fs → es ≡ fs
tail_is e f es fs h = cc

-- the first that forbids is one
first_is : (forbids : Edge → Bool) (front other b c : List Edge) (e f : Edge) → front ++ e ∷ b ≡ other ++ f ∷ c → forbids e ≡ true → forbids f ≡ true
    → All (λ g. forbids g ≡ false) front → All (λ g. forbids g ≡ false) other → e ≡ f
first_is forbids [] [] b c e f same p q none nothing = head_is e f b c same
first_is forbids [] (g ∷ other) b c e f same p q none nothing =
    let is = head_is e g b (other ++ f ∷ c) same in let doesnt : forbids g ≡ false = All-head (λ h. forbids h ≡ false) g other nothing in
    let does : forbids g ≡ true = sym (ap forbids is) ∙ p in absurd cc
first_is forbids (g ∷ front) [] b c e f same p q none nothing =
    let is = head_is g f (front ++ e ∷ b) c same in let doesnt : forbids g ≡ false = All-head (λ h. forbids h ≡ false) g front none in
    let does : forbids g ≡ true = ap forbids is ∙ q in absurd cc
first_is forbids (g ∷ front) (h ∷ other) b c e f same p q none nothing =
    first_is forbids front other b c e f (tail_is g h (front ++ e ∷ b) (other ++ f ∷ c) same) p q
    (All-tail (λ g. forbids g ≡ false) g front none) (All-tail (λ g. forbids g ≡ false) h other nothing)

module _ (s : ℕ) (t : ProgramTree) where
  -- pairs that go back, and the dependences that forbid the step, by what is found
  abbrev back_at : Found → Reference × Reference → Bool
  back_at f p =
      let m = number_behind s f in
      (nat_le m p.0.statement && nat_lt p.0.statement (m + statements_count f.next_body)) && (nat_lt s p.1.statement && nat_lt p.1.statement m)

  abbrev forbids_at : Found → Edge → Bool
  forbids_at f e = carried (fused_at t f) s e

  record FirstBack (f : Found) (e : Edge) : Type 0 where
    edges : List Edge
    are : EdgesOfPairs (fused_at t f) (filter (back_at f) (pairs (references (fused_at t f)))) edges
    of : Edge
    first : IsFirstForbidding (forbids_at f) edges of
    told : e ≡ with_present_numbers (number_behind s f) of

  one_back : (f : Found) (e g : Edge) → FirstBack f e → FirstBack f g → e ≡ g
  one_back f e g p q =
      let same = one_edges_of_pairs (fused_at t f) (filter (back_at f) (pairs (references (fused_at t f)))) p.edges q.edges p.are q.are in
      let a = p.first in
      let b = q.first in
      p.told ∙ (ap (with_present_numbers (number_behind s f)) (first_is (forbids_at f) a.0 b.0 a.1 b.1 p.of q.of (sym a.2 ∙ (same ∙ b.2)) a.3 b.3 a.4 b.4) ∙ sym q.told)

  first_back : (x : Neighbour t s) (edges : List Edge) → AreBack x edges → (f e : Edge) → IsFirstForbidding (forbids_fusion x) edges f → e ≡ with_present_numbers (next_number x) f → FirstBack (found_of x) e
  first_back x edges are f e first told = record { edges = edges; are = are; of = f; first = first; told = told }

  pub one_fusion_cause : (c d : Option Cause) → IsFusionCause s t c → IsFusionCause s t d → c ≡ d
  one_fusion_cause (Some (rule r n)) (Some (rule q m)) a b = one_cause t (StandsAgainstFusion s t) none_forbids (chain s t).one (Some (rule r n)) (Some (rule q m)) a b
  one_fusion_cause (Some (rule r n)) (Some (dependence e)) a b = absurd (b.0 r n a.0)
  one_fusion_cause (Some (dependence e)) (Some (rule q m)) a b = absurd (a.0 q m b.0)
  one_fusion_cause (Some (dependence e)) (Some (dependence g)) a b =
      let x = a.1.neighbour in
      let y = b.1.neighbour in
      let other : FirstBack (found_of x) g = subst (λ (f : Found). FirstBack f g) (one_neighbour t s y x) (first_back y b.2 b.3 b.4 g b.5 b.6) in
      ap (λ (f : Edge). Some (dependence f)) (one_back (found_of x) e g (first_back x a.2 a.3 a.4 e a.5 a.6) other)
  one_fusion_cause (Some (rule r n)) None a b = absurd (b.0 r n a.0)
  one_fusion_cause None (Some (rule q m)) a b = absurd (a.0 q m b.0)
  one_fusion_cause (Some (dependence e)) None a b =
      absurd (forbids_not (forbids_fusion a.1.neighbour) a.5.0 a.5.1 a.4 a.5.3 (subst (λ (es : List Edge). All (λ f. forbids_fusion a.1.neighbour f ≡ false) es) a.5.2 (b.1 a.1 a.2 a.3)))
  one_fusion_cause None (Some (dependence e)) a b =
      absurd (forbids_not (forbids_fusion b.1.neighbour) b.5.0 b.5.1 b.4 b.5.3 (subst (λ (es : List Edge). All (λ f. forbids_fusion b.1.neighbour f ≡ false) es) b.5.2 (a.1 b.1 b.2 b.3)))
  one_fusion_cause None None a b = refl

  -- what none of the dependences of one pair forbids, none of another's does, since there is one pair
  pub one_back_edges : (m n : Match t s) (edges others : List Edge) → AreBack m.neighbour edges → AreBack n.neighbour others → All (λ e. forbids_fusion m.neighbour e ≡ false) edges → All (λ e. forbids_fusion n.neighbour e ≡ false) others
  one_back_edges m n edges others are they all = same (found_of n.neighbour) (one_neighbour t s m.neighbour n.neighbour) they
    where
      same : (f : Found) → found_of m.neighbour ≡ f → EdgesOfPairs (fused_at t f) (filter (back_at f) (pairs (references (fused_at t f)))) others → All (λ e. forbids_at f e ≡ false) others
      same f e back =
          let here = subst (λ (g : Found). EdgesOfPairs (fused_at t g) (filter (back_at g) (pairs (references (fused_at t g)))) others) (sym e) back in
          let one = one_edges_of_pairs (fused_at t (found_of m.neighbour)) (filter (back_at (found_of m.neighbour)) (pairs (references (fused_at t (found_of m.neighbour))))) edges others are here in
          subst (λ (g : Found). All (λ h. forbids_at g h ≡ false) others) e (subst (λ (es : List Edge). All (λ h. forbids_at (found_of m.neighbour) h ≡ false) es) one all)
