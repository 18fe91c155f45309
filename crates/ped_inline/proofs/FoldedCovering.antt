-- Conflicts of a run with what a CALL does are covered by folded dependences.
use Rattle.std.proofs.Common.{◌≡◌, ℕ, suc, ◌+◌, ◌<◌, ◌≤◌, List, [], ◌∷◌, ◌++◌, length, take, Bool, true, false, not, ◌&&◌, ◌||◌, Option, Some, None, is_some, if◌then◌else◌, refl, sym, ap, ◌∙◌, subst, inl, inr, arith}
use Rattle.std.specs.Prelude.{◌==◌, nat_lt}
use Rattle.std.proofs.lemmas.Bool.{both_ways, and_parts, ltb-true}
use Rattle.std.proofs.lemmas.Bool.Decides.{when_false}
use Rattle.ped_tree.specs.Tree.{ProgramTree}
use Rattle.ped_tree.specs.Nests.{Loop}
use Rattle.ped_rules.specs.ped_views.specs.declared.directions.Direction.{Direction}
use Rattle.ped_rules.specs.ped_views.specs.declared.directions.Direction.TheVariants.{Before, Same}
use Rattle.ped_rules.specs.ped_symbols.specs.NameRefusals.{IsValid}
use Rattle.ped_refs.specs.References.{Reference, references, outermost, pairs}
use Rattle.ped_rules.specs.ped_flow.specs.PlainBounds.{nest_round}
use Rattle.ped_edges.specs.Edges.{Edge}
use Rattle.ped_rules.specs.ped_graph.specs.Dependences.{Carriage, carried, independent, carriage_from, is_of, setting_in, AreEdges}
use Rattle.ped_rules.specs.ped_store.specs.Stores.{Store}
use Rattle.ped_rules.specs.ped_store.specs.Acts.{Turn, iterations_of}
use Rattle.ped_rules.specs.ped_store.specs.Races.{Access, conflict}
use Rattle.ped_rules.specs.ped_laws.specs.Conflicts.Directions.{step_at, StandInDirections, share_a_loop}
use Rattle.ped_rules.specs.ped_laws.specs.Conflicts.Sequence.{ComesBefore}
use Rattle.ped_rules.specs.ped_laws.specs.Conflicts.Covered.{ComeInRun, IsCovered}
use Rattle.ped_rules.specs.ped_laws.specs.Conflicts.Making.{IsMade}
use Rattle.ped_rules.specs.ped_laws.proofs.ConflictLaws.CoveringNests.{IsOf, AreOf, reached_are}
use Rattle.ped_rules.specs.ped_laws.proofs.ConflictLaws.CoveringDirections.{same_numbers, other_numbers, numbers_are, same_by_value, earlier_before}
use Rattle.ped_rules.specs.ped_laws.proofs.ConflictLaws.CoveringCarriage.{Here, here}
use Rattle.ped_rules.specs.ped_laws.proofs.ConflictLaws.CoveringRuns.{MakingLaw, SequenceLaw, makers}
use Rattle.ped_inline.specs.Folding.{CallBlock, blocks, block_at, stays_inside, is_folded_by, is_folded}
use Rattle.ped_inline.specs.CoveredCalls.{apart_from, level_between, is_in_block, AreInOneCall, IsCoveredFolded}
use Rattle.ped_inline.proofs.EdgeLevels.{edges_of_levels}
use Rattle.ped_inline.proofs.BlockRounds.{round_block}

-- the carriage of a level
abbrev carriage_of : Option ℕ → Carriage
carriage_of (Some level) = carried level
carriage_of None = independent

level_is : (l x : Option ℕ) → is_of l (carriage_of x) ≡ true → l ≡ x
level_is (Some k) (Some m) h = ap Some (sym (numbers_are m k h))
level_is (Some k) None h = absurd cc
level_is None (Some m) h = absurd cc
level_is None None h = refl

-- the first iterations of both are one
apart_later : (level : ℕ) (i j : Turn) (is js : List Turn) → i.statement ≡ j.statement → i.number ≡ j.number → apart_from level (i ∷ is) (j ∷ js) ≡ apart_from (suc level) is js
apart_later level i j is js s n =
    (λ z. if same_numbers i.statement j.statement s z then (if i.number == j.number then apart_from (suc level) is js else Some level) else None)
    ∙ (λ z. if same_numbers i.number j.number n z then apart_from (suc level) is js else Some level)

-- the first iterations are two of one loop
apart_here : (level : ℕ) (i j : Turn) (is js : List Turn) → i.statement ≡ j.statement → (¬ (i.number ≡ j.number)) → apart_from level (i ∷ is) (j ∷ js) ≡ Some level
apart_here level i j is js s n =
    (λ z. if same_numbers i.statement j.statement s z then (if i.number == j.number then apart_from (suc level) is js else Some level) else None)
    ∙ (λ z. if other_numbers i.number j.number n z then apart_from (suc level) is js else Some level)

-- the first iterations are of two loops
apart_never : (level : ℕ) (i j : Turn) (is js : List Turn) → (¬ (i.statement ≡ j.statement)) → apart_from level (i ∷ is) (j ∷ js) ≡ None
apart_never level i j is js s = λ z. if other_numbers i.statement j.statement s z then (if i.number == j.number then apart_from (suc level) is js else Some level) else None

module _ (t : ProgramTree) (a b : Access) where
  -- directions are carried by the loop in whose iterations the accesses stand apart first
  carriage_apart : (level : ℕ) (nest : List Loop) (is js : List Turn) (vector : List Direction) → AreOf t nest is → ComesBefore t a b is js → StandInDirections t is js vector → carriage_from level vector ≡ carriage_of (apart_from level is js)
  carriage_apart level nest [] js vector of before stands = ap (carriage_from level) stands
  carriage_apart level nest (i ∷ is) [] vector of before stands = ap (carriage_from level) stands
  carriage_apart level [] (i ∷ is) (j ∷ js) vector of before stands = absurd of
  carriage_apart level (l ∷ ls) (i ∷ is) (j ∷ js) vector of (inl (same, more)) stands =
      let statement : i.statement ≡ j.statement = ap (λ (z : Turn). z.statement) same in
      let h = here t i j is js vector statement stands in
      let e : h.0 ≡ Same = same_by_value (step_at t i.statement) h.0 i.value j.value (ap (λ (z : Turn). z.value) same) h.3 in
      ap (carriage_from level) (h.2 ∙ ap (λ (d : Direction). d ∷ h.1) e)
      ∙ carriage_apart (suc level) ls is js h.1 of.1 more h.4
      ∙ ap carriage_of (sym (apart_later level i j is js statement (ap (λ (z : Turn). z.number) same)))
  carriage_apart level (l ∷ ls) (i ∷ is) (j ∷ js) vector of (inr (inl later)) stands =
      let h = here t i j is js vector later.same stands in
      let e : h.0 ≡ Before = earlier_before t l i j of.0 later h.0 h.3 in
      let less = later.earlier in
      ap (carriage_from level) (h.2 ∙ ap (λ (d : Direction). d ∷ h.1) e) ∙ ap carriage_of (sym (apart_here level i j is js later.same (λ z. omega (arith, z, less))))
  carriage_apart level (l ∷ ls) (i ∷ is) (j ∷ js) vector of (inr (inr before)) stands =
      let none : vector ≡ [] = when_false (Here t i j is js vector) (vector ≡ []) (other_numbers i.statement j.statement before.0) stands in
      ap (carriage_from level) none ∙ ap carriage_of (sym (apart_never level i j is js before.0))

-- a level that lies further in than so many loops, or none
abbrev is_beyond : ℕ → Option ℕ → Bool
is_beyond loops None = true
is_beyond loops (Some level) = nat_lt loops level

not_beyond : (loops level : ℕ) → level ≤ loops → nat_lt loops level ≡ true → ⊥
not_beyond loops level h k = let less = ltb-true loops level k in omega (arith, h, less)

-- the same of one loop and of those in it
first_of : (t : ProgramTree) (l : Loop) (n k : ℕ) (i j : Turn) (is js : List Turn) → IsOf t l i → IsOf t l j → is_beyond (k + suc n) (apart_from (suc k) (i ∷ is) (j ∷ js)) ≡ true
    → (is_beyond (suc k + n) (apart_from (suc (suc k)) is js) ≡ true → take n (iterations_of is) ≡ take n (iterations_of js)) → take (suc n) (iterations_of (i ∷ is)) ≡ take (suc n) (iterations_of (j ∷ js))
first_of t l n k i j is js p q h more = go (i.number == j.number) refl
  where
    statement : i.statement ≡ j.statement
    statement = p.statement ∙ sym q.statement

    one_further : k + suc n ≡ suc k + n
    one_further = omega arith

    apart : (i.number == j.number) ≡ false → ¬ (i.number ≡ j.number)
    apart e f = both_ways (i.number == j.number) e (same_numbers i.number j.number f)

    go : (b : Bool) → (i.number == j.number) ≡ b → take (suc n) (iterations_of (i ∷ is)) ≡ take (suc n) (iterations_of (j ∷ js))
    go true e =
        let number : i.number ≡ j.number = numbers_are i.number j.number e in
        let rest = more ((λ z. is_beyond (sym one_further z) (sym (apart_later (suc k) i j is js statement number) z)) ∙ h) in
        λ z. record { statement = statement z; number = number z } ∷ rest z
    go false e = absurd (not_beyond (k + suc n) (suc k) (omega arith) (ap (is_beyond (k + suc n)) (sym (apart_here (suc k) i j is js statement (apart e))) ∙ h))

-- inside the same loops the iterations are the same, where the accesses stand apart in none of these
same_iterations : (t : ProgramTree) (ls xs ys : List Loop) (k : ℕ) (is js : List Turn) → AreOf t (ls ++ xs) is → AreOf t (ls ++ ys) js → is_beyond (k + length ls) (apart_from (suc k) is js) ≡ true
    → take (length ls) (iterations_of is) ≡ take (length ls) (iterations_of js)
same_iterations t [] xs ys k is js p q h = refl
same_iterations t (l ∷ ls) xs ys k [] js p q h = absurd p
same_iterations t (l ∷ ls) xs ys k (i ∷ is) [] p q h = absurd q
same_iterations t (l ∷ ls) xs ys k (i ∷ is) (j ∷ js) p q h = first_of t l (length ls) k i j is js p.0 q.0 h (λ e. same_iterations t ls xs ys (suc k) is js p.1 q.1 e)

-- what stays inside a block has a level beyond the loops round it
beyond : (b : CallBlock) (level : Option ℕ) → stays_inside b level ≡ true → is_beyond b.loops level ≡ true
beyond b None h = refl
beyond b (Some level) h = h

-- a dependence that isn't folded has no block at its ends, or one at both, and stays inside it
pub data Unfolded (s k : Option CallBlock) (level : Option ℕ) : Type 0 where
  no_block : s ≡ None → k ≡ None → Unfolded s k level
  one_block : (x y : CallBlock) → s ≡ Some x → k ≡ Some y → x.number ≡ y.number → stays_inside x level ≡ true → Unfolded s k level

unfolded : (s k : Option CallBlock) (level : Option ℕ) → is_folded_by s k level ≡ false → Unfolded s k level
unfolded None None level h = no_block refl refl
unfolded None (Some y) level h = absurd cc
unfolded (Some x) None level h = absurd cc
unfolded (Some x) (Some y) level h = let p = and_parts (x.number == y.number) (stays_inside x level) (passes (x.number == y.number && stays_inside x level) h) in one_block x y refl refl (numbers_are x.number y.number p.0) p.1
  where
    passes : (b : Bool) → not b ≡ false → b ≡ true
    passes true e = refl
    passes false e = absurd cc

module _ (made : MakingLaw) (sequence : SequenceLaw) (t : ProgramTree) (data_bytes : List ℕ) (a b : Access) (edges : List Edge) (valid : IsValid t) (come : ComeInRun t data_bytes a b) (meets : conflict a b ≡ true) (one : 0 < a.reference) (other : 0 < b.reference)
    (share : share_a_loop a.place.turns b.place.turns ≡ true) (are : AreEdges t edges) (covered : IsCovered t edges a b) where
  nest_of : (x : Access) (r : Reference) (first : Store) (scope : _) (u : Store) → IsMade t first x r scope u → AreOf t r.nest x.place.turns
  nest_of x r first scope u m = subst (λ (is : List Turn). AreOf t r.nest is) (sym m.turns) (reached_are t (setting_in t (outermost r)) first r.nest scope m.reached)

  its_level : covered.edge.level ≡ level_between a b
  its_level =
      let by = makers made sequence t data_bytes a b valid come meets one other share in
      let m = by.met in
      let carriage = carriage_apart t a b 1 by.source.nest a.place.turns b.place.turns covered.vector (nest_of a by.source by.first m.at_source m.before m.made) m.order covered.stands in
      level_is covered.edge.level (level_between a b) (ap (is_of covered.edge.level) (sym carriage) ∙ edges_of_levels t (pairs (references t)) edges are covered.edge covered.listed covered.vector covered.contains)

  -- both in one block, which is carried by no loop round it: in one execution of it
  in_one_call : (x y : CallBlock) → block_at (blocks t) a.place.statement ≡ Some x → block_at (blocks t) b.place.statement ≡ Some y → x.number ≡ y.number → stays_inside x covered.edge.level ≡ true → AreInOneCall t a b
  in_one_call x y p q same inside =
      let by = makers made sequence t data_bytes a b valid come meets one other share in
      let m = by.met in
      let first = round_block t by.source x m.made.listed (ap (block_at (blocks t)) (sym m.made.statement) ∙ p) in
      let second = round_block t by.sink y m.makes.listed (ap (block_at (blocks t)) (sym m.makes.statement) ∙ q) in
      let ls : List Loop = nest_round t x.number in
      let deep : x.loops ≡ length ls = first.1 in
      let also : y.loops ≡ length ls = second.1 ∙ ap (λ (n : ℕ). length (nest_round t n)) (sym same) in
      let block : y ≡ x = λ i. record { number = sym same i; loops = (also ∙ sym deep) i } in
      let source_nest : AreOf t (ls ++ first.0.0) a.place.turns = subst (λ (ns : List Loop). AreOf t ns a.place.turns) first.0.1 (nest_of a by.source by.first m.at_source m.before m.made) in
      let sink_nest : AreOf t (ls ++ second.0.0) b.place.turns = subst (λ (ns : List Loop). AreOf t ns b.place.turns) (second.0.1 ∙ ap (λ (n : ℕ). nest_round t n ++ second.0.0) (sym same)) (nest_of b by.sink by.first m.at_sink m.behind m.makes) in
      let all_round : x.loops ≡ 0 + length ls = omega (arith, deep) in
      let further : is_beyond (0 + length ls) (apart_from 1 a.place.turns b.place.turns) ≡ true = (λ i. is_beyond (sym all_round i) (sym its_level i)) ∙ beyond x covered.edge.level inside in
      record {
        block = x;
        of_first = p;
        of_second = q ∙ ap Some block;
        together = subst (λ (n : ℕ). take n (iterations_of a.place.turns) ≡ take n (iterations_of b.place.turns)) (sym deep) (same_iterations t ls first.0.0 second.0.0 0 a.place.turns b.place.turns source_nest sink_nest further);
      }

  pub calls_covered : (is_in_block t a || is_in_block t b) ≡ true → (¬ AreInOneCall t a b) → IsCoveredFolded t edges a b
  calls_covered some apart = record { covered = covered; folded = go (is_folded (blocks t) covered.edge) refl; level = its_level }
    where
      at_source : block_at (blocks t) covered.edge.source.0 ≡ block_at (blocks t) a.place.statement
      at_source = ap (λ (p : ℕ × ℕ). block_at (blocks t) p.0) covered.source

      at_sink : block_at (blocks t) covered.edge.sink.0 ≡ block_at (blocks t) b.place.statement
      at_sink = ap (λ (p : ℕ × ℕ). block_at (blocks t) p.0) covered.sink

      never : Unfolded (block_at (blocks t) covered.edge.source.0) (block_at (blocks t) covered.edge.sink.0) covered.edge.level → ⊥
      never (no_block p q) = both_ways (is_in_block t a || is_in_block t b) ((λ i. is_some ((sym at_source ∙ p) i) || is_some ((sym at_sink ∙ q) i))) some
      never (one_block x y p q same inside) = apart (in_one_call x y (sym at_source ∙ p) (sym at_sink ∙ q) same inside)

      go : (f : Bool) → is_folded (blocks t) covered.edge ≡ f → is_folded (blocks t) covered.edge ≡ true
      go true e = e
      go false e = absurd (never (unfolded (block_at (blocks t) covered.edge.source.0) (block_at (blocks t) covered.edge.sink.0) covered.edge.level e))
