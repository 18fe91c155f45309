-- Conflicts of a run are covered by the dependences of the program.
use Rattle.std.proofs.Common.{◌≡◌, ℕ, ◌+◌, ◌<◌, List, [], ◌∷◌, ◌++◌, length, take, Bool, true, false, ◌&&◌, ◌||◌, refl, sym, ap, ◌∙◌, subst, ◌⊎◌, inl, inr, arith, Option, Some, None, if◌then◌else◌}
use Rattle.std.specs.Prelude.{◌==◌, nat_lt}
use Rattle.std.specs.List.{list_all}
use Rattle.std.proofs.lemmas.Bool.{both_ways}
use Rattle.std.proofs.lemmas.Bool.Decides.{nat_tests}
use Rattle.ped_flow.specs.ped_base.specs.Lists.{has_some, is_same_text}
use Rattle.ped_graph.specs.ped_views.specs.declared.directions.Direction.{Direction}
use Rattle.ped_graph.specs.ped_views.specs.Vectors.{IsPossible}
use Rattle.ped_flow.specs.ped_tree.specs.Tree.{StmtTree, Do, ProgramTree}
use Rattle.ped_flow.specs.ped_tree.specs.Accesses.{own_accesses, constant_names}
use Rattle.ped_flow.specs.ped_tree.specs.Nests.{Loop, indices_of, common_nest}
use Rattle.ped_flow.specs.ped_tree.specs.Numbering.{statement_with}
use Rattle.ped_flow.specs.ped_tree.specs.Grammar.Words.{is_name}
use Rattle.ped_graph.specs.ped_symbols.specs.Kinds.{kind_in}
use Rattle.ped_graph.specs.ped_refs.specs.References.{Reference, references, outermost, innermost_private, is_pair, comes_before, pairs}
use Rattle.ped_graph.specs.ped_edges.specs.Edges.{Edge}
use Rattle.ped_graph.specs.ped_symbols.specs.RightUses.RightUses.{is_scalar}
use Rattle.ped_graph.specs.Owners.{have_same_owner, owner_level, is_same}
use Rattle.ped_graph.specs.Dependences.{carriage_from, is_of, setting_in, view_of, EdgesOfPairs, AreEdges}
use Rattle.ped_eval.specs.ped_store.specs.Cells.{same_cell}
use Rattle.ped_eval.specs.ped_store.specs.Stores.{Store}
use Rattle.ped_eval.specs.ped_store.specs.Acts.{Turn}
use Rattle.ped_eval.specs.ped_store.specs.Races.{Access, are_apart}
use Rattle.ped_laws.specs.Acts.Orders.{IsIn}
use Rattle.ped_laws.proofs.ActLaws.SameCells.{cell_is}
use Rattle.ped_eval.specs.Scopes.{Scope, turns_of, cell_of}
use Rattle.ped_laws.proofs.CoveringLaws.Texts.{text_itself}
use Rattle.ped_laws.specs.Conflicts.Making.{IsMade}
use Rattle.ped_laws.specs.Conflicts.Sequence.{IsBeforeInText, ComesBefore}
use Rattle.ped_laws.specs.Conflicts.Directions.{StandInDirections, share_a_loop}
use Rattle.ped_laws.specs.Conflicts.Covered.{IsParallelAt}
use Rattle.ped_laws.proofs.ConflictLaws.CoveringNests.{IsOf, AreOf, reached_are, one_of}
use Rattle.ped_laws.proofs.ConflictLaws.CoveringOwners.{HaveOneOwner, none_owned, one_owner, never_private, holds_among, same_owner}
use Rattle.ped_laws.proofs.ConflictLaws.CoveringDirections.{same_numbers, numbers_are}
use Rattle.ped_laws.proofs.ConflictLaws.CoveringCarriage.{IsExit, carriage_is, same_front}
use Rattle.ped_laws.proofs.ConflictLaws.CoveringEdges.{IsLevel, IsBetween, is_listed, edge_between}
use Rattle.ped_laws.proofs.ConflictLaws.CoveringWrites.{statement_of, do_writes}
use Rattle.ped_laws.proofs.ConflictLaws.CoveringCells.{name_in, name_of_cell, kind_of_cell, depth_of, no_deeper, deeper}

-- what covers a conflict: the dependence of a level; where the two race, that of a PARALLEL DO
pub record IsCoveredAt (t : ProgramTree) (edges : List Edge) (a b : Access) (source sink : Reference) : Type 0 where
  pub vector : List Direction
  pub stands : StandInDirections t a.place.turns b.place.turns vector
  pub level : Option ℕ
  pub between : IsBetween source sink level vector edges
  pub parallel : are_apart a.place.turns b.place.turns ≡ true → (k : ℕ) × (level ≡ Some k) × IsParallelAt source.nest k

-- two conflicting accesses that references make in one execution of a DO, the earlier one first
pub record AreMet (t : ProgramTree) (first : Store) (a b : Access) (source sink : Reference) : Type 0 where
  pub at_source : Scope
  pub at_sink : Scope
  pub before : Store
  pub behind : Store
  pub made : IsMade t first a source at_source before
  pub makes : IsMade t first b sink at_sink behind
  pub same : same_cell a.cell b.cell ≡ true
  pub write : a.writes || b.writes ≡ true
  pub share : share_a_loop a.place.turns b.place.turns ≡ true
  pub order : ComesBefore t a b a.place.turns b.place.turns

text_before : (m n k l : ℕ) → (m < n) ⊎ ((m ≡ n) × (k < l)) → (nat_lt m n || (m == n && nat_lt k l)) ≡ true
text_before m n k l (inl h) = grind (arith, nat_tests)
text_before m n k l (inr h) = let e = h.0 in let less = h.1 in grind (arith, nat_tests)

same_statement : (r s : StmtTree) → Some r ≡ Some s → r ≡ s
same_statement r s e = cc

module _ (t : ProgramTree) (first : Store) (a b : Access) (source sink : Reference) (m : AreMet t first a b source sink) where
  cells : a.cell ≡ b.cell
  cells = cell_is a.cell b.cell m.same

  source_nest : AreOf t source.nest a.place.turns
  source_nest = subst (λ (is : List Turn). AreOf t source.nest is) (sym m.made.turns) (reached_are t (setting_in t (outermost source)) first source.nest m.at_source m.made.reached)

  sink_nest : AreOf t sink.nest b.place.turns
  sink_nest = subst (λ (is : List Turn). AreOf t sink.nest is) (sym m.makes.turns) (reached_are t (setting_in t (outermost sink)) first sink.nest m.at_sink m.makes.reached)

  names : source.access.name ≡ sink.access.name
  names =
      sym (name_of_cell t m.at_source m.before source.access.name source.access.subscripts a.cell m.made.cell)
      ∙ ap name_in cells
      ∙ name_of_cell t m.at_sink m.behind sink.access.name sink.access.subscripts b.cell m.makes.cell

  -- both stand in a DO
  share_common : (ls ms : List Loop) (is js : List Turn) → AreOf t ls is → AreOf t ms js → share_a_loop is js ≡ true → has_some (common_nest ls ms) ≡ true
  share_common ls ms [] js h k s = absurd cc
  share_common ls ms (i ∷ is) [] h k s = absurd cc
  share_common [] ms (i ∷ is) (j ∷ js) h k s = absurd h
  share_common (l ∷ ls) [] (i ∷ is) (j ∷ js) h k s = absurd k
  share_common (l ∷ ls) (n ∷ ms) (i ∷ is) (j ∷ js) h k s =
      let equal : l.number ≡ n.number = sym h.0.statement ∙ numbers_are i.statement j.statement s ∙ k.0.statement in
      ap (λ (b : Bool). has_some (if b then l ∷ common_nest ls ms else [])) (same_numbers l.number n.number equal)

  pub pair : is_pair source sink ≡ true
  pair =
      let common = share_common source.nest sink.nest a.place.turns b.place.turns source_nest sink_nest m.share in
      let same : is_same_text source.access.name sink.access.name ≡ true = ap (is_same_text source.access.name) (sym names) ∙ text_itself source.access.name in
      let write : (source.access.writes || sink.access.writes) ≡ true = (λ i. sym m.made.writes i || sym m.makes.writes i) ∙ m.write in
      (λ i. same i && write i && common i)

  -- no name that these references touch is private anywhere
  none_private : (p : List ℕ → Bool) → ((l : Loop) (i : Turn) → IsOf t l i → list_all p l.head.private ≡ true) → p source.access.name ≡ false → HaveOneOwner source.access.name source.nest sink.nest a.place.turns b.place.turns
  none_private p all h = none_owned source.access.name source.nest sink.nest a.place.turns b.place.turns (never_private t p source.access.name source.nest a.place.turns all h source_nest) (never_private t p source.access.name sink.nest b.place.turns all h sink_nest)

  all_scalars : (l : Loop) (i : Turn) → IsOf t l i → list_all (is_scalar (kind_in t)) l.head.private ≡ true
  all_scalars l i of = of.private

  all_names : (l : Loop) (i : Turn) → IsOf t l i → list_all is_name l.head.private ≡ true
  all_names l i of = of.named

  -- both references belong to one DO, and stand in one iteration of it; or both belong to none
  owner : HaveOneOwner source.access.name source.nest sink.nest a.place.turns b.place.turns
  owner = go (kind_of_cell t m.at_source m.before source.access.name source.access.subscripts a.cell m.made.cell) (kind_of_cell t m.at_sink m.behind sink.access.name sink.access.subscripts b.cell m.makes.cell)
    where
      go : (is_scalar (kind_in t) source.access.name ≡ false) ⊎ ((is_name source.access.name ≡ false) ⊎ (a.cell ≡ cell_of m.at_source source.access.name))
          → (is_scalar (kind_in t) sink.access.name ≡ false) ⊎ ((is_name sink.access.name ≡ false) ⊎ (b.cell ≡ cell_of m.at_sink sink.access.name))
          → HaveOneOwner source.access.name source.nest sink.nest a.place.turns b.place.turns
      go (inl h) k = none_private (is_scalar (kind_in t)) all_scalars h
      go (inr (inl h)) k = none_private is_name all_names h
      go (inr (inr h)) (inl k) = none_private (is_scalar (kind_in t)) all_scalars (ap (is_scalar (kind_in t)) names ∙ k)
      go (inr (inr h)) (inr (inl k)) = none_private is_name all_names (ap is_name names ∙ k)
      go (inr (inr h)) (inr (inr k)) =
          let one = one_owner t (setting_in t (outermost source)) (setting_in t (outermost sink)) first first source.access.name source.nest sink.nest m.at_source m.at_sink m.made.reached m.makes.reached
          (sym h ∙ cells ∙ k ∙ ap (cell_of m.at_sink) (sym names)) in
          subst (λ (is : List Turn). HaveOneOwner source.access.name source.nest sink.nest is b.place.turns) (sym m.made.turns)
          (subst (λ (js : List Turn). HaveOneOwner source.access.name source.nest sink.nest (turns_of m.at_source) js) (sym m.makes.turns) one)

  owners : have_same_owner source sink ≡ true
  owners = same_owner (innermost_private source.access.name source.nest) (innermost_private sink.access.name sink.nest) (owner.0 ∙ ap (λ (x : List ℕ). innermost_private x sink.nest) names)

  within : (vector : List Direction) → StandInDirections t a.place.turns b.place.turns vector → list_all is_same (take (owner_level source) vector) ≡ true
  within vector stands =
      let f = owner.1 in
      same_front t a b (owner_level source) f.first f.second f.first_more f.second_more vector
      (subst (λ (is : List Turn). ComesBefore t a b is (f.second ++ f.second_more)) f.source (subst (λ (js : List Turn). ComesBefore t a b a.place.turns js) f.sink m.order))
      (subst (λ (is : List Turn). StandInDirections t is (f.second ++ f.second_more) vector) f.source (subst (λ (js : List Turn). StandInDirections t a.place.turns js vector) f.sink stands))
      f.same f.deep

  -- what a DO does when it is left meets nothing that was done in its iterations
  never_exit : IsExit b a.place.turns b.place.turns → ⊥
  never_exit x =
      let of = one_of t source.nest b.place.turns x.left x.inner (subst (AreOf t source.nest) x.turns source_nest) in
      let s = statement_of t sink m.makes.listed in
      let number : x.left.statement ≡ sink.statement = x.statement ∙ m.makes.statement in
      let stands : statement_with x.left.statement t ≡ Some (Do of.0.head of.1.body) = ap (λ (n : ℕ). statement_with n t) of.1.statement ∙ of.1.stands in
      let is : s.0 ≡ Do of.0.head of.1.body = same_statement s.0 (Do of.0.head of.1.body) (sym s.1 ∙ ap (λ (n : ℕ). statement_with n t) (sym number) ∙ stands) in
      let own = subst (λ (z : StmtTree). IsIn sink.access (own_accesses (constant_names t.decls) (indices_of sink.nest) z)) is s.2 in
      let w = do_writes (constant_names t.decls) (indices_of sink.nest) of.0.head of.1.body sink.access own (sym m.makes.writes ∙ x.writes) in
      let scalar : is_scalar (kind_in t) sink.access.name ≡ true = holds_among (is_scalar (kind_in t)) sink.access.name of.0.head.private of.1.private w.0 in
      let named : is_name sink.access.name ≡ true = holds_among is_name sink.access.name of.0.head.private of.1.named w.0 in
      let at_sink : b.cell ≡ cell_of m.at_sink sink.access.name = elim (kind_of_cell t m.at_sink m.behind sink.access.name sink.access.subscripts b.cell m.makes.cell) [
        | inl h ↦ absurd (both_ways (is_scalar (kind_in t) sink.access.name) h scalar)
        | inr h ↦ elim h [ inl k ↦ absurd (both_ways (is_name sink.access.name) k named) | inr k ↦ k ]
      ] in
      let at_source : a.cell ≡ cell_of m.at_source sink.access.name = elim (kind_of_cell t m.at_source m.before source.access.name source.access.subscripts a.cell m.made.cell) [
        | inl h ↦ absurd (both_ways (is_scalar (kind_in t) sink.access.name) (ap (is_scalar (kind_in t)) (sym names) ∙ h) scalar)
        | inr h ↦ elim h [ inl k ↦ absurd (both_ways (is_name sink.access.name) (ap is_name (sym names) ∙ k) named) | inr k ↦ k ∙ ap (cell_of m.at_source) names ]
      ] in
      let deep = deeper t (setting_in t (outermost source)) first sink.access.name of.0.head of.1.body x.left b.place.turns source.nest m.at_source x.inner m.made.reached (sym m.made.turns ∙ x.turns) stands w.0 in
      let flat = no_deeper m.at_sink sink.access.name in
      let same : depth_of (cell_of m.at_source sink.access.name) ≡ depth_of (cell_of m.at_sink sink.access.name) = ap depth_of (sym at_source ∙ cells ∙ at_sink) in
      let long : length (turns_of m.at_sink) ≡ length b.place.turns = ap length (sym m.makes.turns) in
      omega (arith, deep, flat, same, long)

  pub text : IsBeforeInText a b → comes_before source sink ≡ true
  text h =
      text_before source.statement sink.statement source.number sink.number
      (elim h [
        | inl less ↦ inl (omega (arith, less, m.made.statement, m.makes.statement))
        | inr both ↦ inr (sym m.made.statement ∙ both.0 ∙ m.makes.statement, omega (arith, both.1, m.made.number, m.makes.number))
      ])

  -- the dependence of the level that carries their directions, among those of pairs of which theirs is one
  pub covered_of : (ps : List (Reference × Reference)) (edges : List Edge) (vector : List Direction) (level : Option ℕ) → EdgesOfPairs t ps edges → IsIn (source, sink) ps → StandInDirections t a.place.turns b.place.turns vector → IsPossible (view_of t source sink) vector → length vector ≡ length (view_of t source sink).loops
      → is_of level (carriage_from 1 vector) ≡ true → IsLevel source sink (length (view_of t source sink).loops) level → IsBetween source sink level vector edges
  covered_of ps edges vector level are among stands possible long carries l = edge_between t source sink ps edges vector level are among owners (within vector stands) possible long carries l

  -- the pair of their references is one of those of the program
  pub pair_listed : IsIn (source, sink) (pairs (references t))
  pair_listed = is_listed (references t) source sink m.made.listed m.makes.listed pair

  -- the dependence that covers them
  pub covered_at : (edges : List Edge) (vector : List Direction) → StandInDirections t a.place.turns b.place.turns vector → IsPossible (view_of t source sink) vector → length vector ≡ length (view_of t source sink).loops → AreEdges t edges
      → IsCoveredAt t edges a b source sink
  covered_at edges vector stands possible long are = elim (carriage_is t a b 1 source.nest a.place.turns b.place.turns vector source_nest m.order stands) [
    | inl c ↦ record {
      vector = vector;
      stands = stands;
      level = Some (length c.front + 1);
      between = covered_of (pairs (references t)) edges vector (Some (length c.front + 1)) are pair_listed stands possible long
          (ap (is_of (Some (length c.front + 1))) c.carriage ∙ same_numbers (length c.front + 1) (length c.front + 1) refl) (omega arith, omega (arith, c.within, long));
      parallel = λ p. (length c.front + 1, refl, (c.front, c.l, c.inner, c.nest_is, refl, c.parallel p));
    }
    | inr c ↦ record {
      vector = vector;
      stands = stands;
      level = None;
      between = covered_of (pairs (references t)) edges vector None are pair_listed stands possible long (ap (is_of None) c.carriage)
          (elim c.text [ inl h ↦ text h | inr x ↦ absurd (never_exit x) ]);
      parallel = λ p. absurd (c.together p);
    }
  ]
