-- `privatise` leaves each PARALLEL DO as it is: neither the DO that it changes is one, nor one round it. So their bodies write what they wrote.
use Rattle.std.proofs.Common.{◌≡◌, ℕ, ◌+◌, List, [], ◌∷◌, Bool, true, false, Some, refl, sym, ap, subst, ◌∙◌, ◌⊎◌, inl, inr, arith}
use Rattle.std.specs.Prelude.{◌||◌}
use Rattle.std.specs.List.{list_any}
use Rattle.std.proofs.lemmas.Bool.{both_ways}
use Rattle.ped_tree.specs.Tree.{Head, StmtTrees, Do, ProgramTree}
use Rattle.ped_tree.specs.Nests.{Loop}
use Rattle.ped_tree.specs.Numbering.{statements_count}
use Rattle.ped_rules.specs.ped_laws.specs.Acts.Orders.{IsIn}
use Rattle.ped_rules.specs.ped_flow.specs.PlainBounds.{all_loops_round, nest_round}
use Rattle.ped_rules.specs.ped_flow.specs.Questions.{LoopOf, IsIndexIn}
use Rattle.ped_rules.specs.ped_steps.specs.Replacing.{alone}
use Rattle.ped_rules.specs.ped_steps.specs.Tidy.{is_written_in}
use Rattle.ped_rules.specs.ped_steps.proofs.RunLaws.ReplacedTrees.{program_gap}
use Rattle.ped_rules.specs.ped_steps.proofs.RunLaws.RunCells.{EachDos}
use Rattle.ped_scalar.specs.Privatising.{with_private, privatised}
use Rattle.ped_rules.specs.ped_loop_runs.proofs.TidyLaws.TidyReferences.{written_is}
use Rattle.ped_rules.specs.ped_loop_runs.proofs.TidyLaws.TidyReferencesGaps.{Stands, each_stands, all_move, exchanged_each, each_of_program}

none_in : (nest : List Loop) → list_any (λ m. m.head.parallel) nest ≡ false → (m : Loop) → IsIn m nest → m.head.parallel ≡ true → ⊥
none_in [] e m i p = i
none_in (n ∷ nest) e m i p = go n.head.parallel refl e (λ h j. none_in nest h m j p) i
  where
    go : (b : Bool) → n.head.parallel ≡ b → (b || list_any (λ m. m.head.parallel) nest) ≡ false → (list_any (λ m. m.head.parallel) nest ≡ false → IsIn m nest → ⊥) → (m ≡ n) ⊎ IsIn m nest → ⊥
    go true q h more j = absurd cc
    go false q h more (inl r) = both_ways n.head.parallel q (subst (λ (k : Loop). k.head.parallel ≡ true) r p)
    go false q h more (inr j) = more h j

module _ (t : ProgramTree) (s : ℕ) (x : List ℕ) (l : LoopOf t s) (sequential : (l.head.parallel || list_any (λ m. m.head.parallel) (nest_round t s)) ≡ false) where
  -- a PARALLEL DO of the new program stands with its head and its body in the old one
  abbrev Stayed : ℕ → Head → StmtTrees → Type 0
  Stayed k h b = h.parallel ≡ true → Stands t k h b

  own : l.head.parallel ≡ false
  own = go l.head.parallel sequential
    where
      go : (b : Bool) → (b || list_any (λ m. m.head.parallel) (nest_round t s)) ≡ false → b ≡ false
      go true h = absurd cc
      go false h = refl

  around : list_any (λ m. m.head.parallel) (nest_round t s) ≡ false
  around = go l.head.parallel sequential
    where
      go : (b : Bool) → (b || list_any (λ m. m.head.parallel) (nest_round t s)) ≡ false → list_any (λ m. m.head.parallel) (nest_round t s) ≡ false
      go true h = absurd cc
      go false h = h

  stays : (k j : ℕ) (h : Head) (b : StmtTrees) → j ≡ k + 0 → Stands t k h b → Stayed j h b
  stays k j h b e is parallel = subst (λ (n : ℕ). Stands t n h b) (omega (arith, e)) is

  kept : (ss : StmtTrees) (n : ℕ) → EachDos (Stands t) ss n → EachDos Stayed ss n
  kept ss n = all_move (Stands t) Stayed 0 n (n + statements_count ss) (λ k j h b from to. stays k j h b) ss n n (omega arith) (omega arith) (omega arith)

  inside : EachDos (Stands t) (alone (Do l.head l.body)) s → EachDos Stayed (with_private x (Do l.head l.body)) s
  inside all = ((λ parallel. absurd (both_ways l.head.parallel own parallel), kept l.body (s + 1) all.0.1), tt)

  each_stayed : EachDos Stayed (privatised t s x).body 1
  each_stayed =
      let g = program_gap (with_private x) s (Do l.head l.body) t l.is in
      subst (λ (ss : StmtTrees). EachDos Stayed ss 1) (sym g.new_is)
      (exchanged_each (Stands t) Stayed (alone (Do l.head l.body)) (with_private x (Do l.head l.body)) 0 s (nest_round t s) (omega arith) (omega arith) (λ k j h b below. stays k j h b) (λ k j h b above. stays k j h b)
      (λ n h gap below i is parallel. absurd (none_in (nest_round t s) around (record { number = n; head = h }) i parallel)) inside g.gap 1 g.number
      (λ m i. subst (λ (ss : StmtTrees). IsIn m (all_loops_round s ss 1)) (sym g.old_is) i) (subst (λ (ss : StmtTrees). EachDos (Stands t) ss 1) g.old_is (each_stands t)))

  -- each PARALLEL DO of the new program is one of the old one, with the same number, head and body
  pub parallel_stays : (k : ℕ) (p : LoopOf (privatised t s x) k) → p.head.parallel ≡ true → Stands t k p.head p.body
  parallel_stays k p parallel = each_of_program Stayed (privatised t s x) each_stayed k p parallel

  -- and its body writes the same names
  pub privatised_writes : (k : ℕ) (p : LoopOf (privatised t s x) k) → p.head.parallel ≡ true → (w : List ℕ) → is_written_in (privatised t s x) k p.body w ≡ is_written_in t k p.body w
  privatised_writes k p parallel w = written_is (privatised t s x) k p w ∙ sym (written_is t k (record { head = p.head; body = p.body; is = parallel_stays k p parallel }) w)

  same_head : (h g : Head) (b c : StmtTrees) → Some (Do h b) ≡ Some (Do g c) → h ≡ g
  same_head h g b c e = cc

  -- the variables of it and of the DO loops in it are those of the old one
  pub index_stays : (k : ℕ) (p : LoopOf (privatised t s x) k) → p.head.parallel ≡ true → (w : List ℕ) → IsIndexIn (privatised t s x) k w → IsIndexIn t k w
  index_stays k p parallel w index =
      let r = index.loop in
      let alike : r.head ≡ p.head = same_head r.head p.head r.body p.body (sym r.is ∙ p.is) in
      record { loop = record { head = r.head; body = r.body; is = parallel_stays k r (ap (λ (h : Head). h.parallel) alike ∙ parallel) }; among = index.among }

  -- no PARALLEL DO of the new program writes a variable of it or of a DO in it, where none of the old one does
  pub privatised_unwritten : ((k : ℕ) (q : LoopOf t k) → q.head.parallel ≡ true → (w : List ℕ) → IsIndexIn t k w → is_written_in t k q.body w ≡ false)
      → (k : ℕ) (p : LoopOf (privatised t s x) k) → p.head.parallel ≡ true → (w : List ℕ) → IsIndexIn (privatised t s x) k w → is_written_in (privatised t s x) k p.body w ≡ false
  privatised_unwritten unwritten k p parallel w index =
      privatised_writes k p parallel w ∙ unwritten k (record { head = p.head; body = p.body; is = parallel_stays k p parallel }) parallel w (index_stays k p parallel w index)
