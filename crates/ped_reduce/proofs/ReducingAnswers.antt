-- From what the code of `reduce` finds to what it answers.
use Rattle.std.proofs.Common.{◌≡◌, ◌↔◌, ℕ, List, [], ◌∷◌, Bool, true, false, ◌||◌, IsTrue, inl, inr, Option, Some, None, Ok, Err, MatchOption, refl, sym, ap, ◌∙◌, subst, arith}
use Rattle.std.proofs.lemmas.Bool.{both_ways}
use Rattle.ped_tree.specs.Tree.{Head, StmtTree, StmtTrees, Do, ProgramTree}
use Rattle.ped_tree.specs.Views.{stmt_tree, stmt_trees}
use Rattle.ped_tree.specs.declared.statements.Stmt.{Stmt}
use Rattle.ped_rules.specs.ped_symbols.specs.NameRefusals.{IsValid}
use Rattle.ped_rules.specs.ped_flow.specs.Questions.{IsLoop, LoopOf}
use Rattle.ped_edges.specs.declared.edges.Edge.{Edge as CodeEdge}
use Rattle.ped_rules.specs.ped_steps.specs.declared.rules.Rule.{Rule}
use Rattle.ped_rules.specs.ped_steps.specs.declared.rules.Rule.TheVariants.{NoLoop, Limit, AlreadyPrivate, NotSum}
use Rattle.ped_rules.specs.ped_steps.specs.declared.causes.Refused.{Refused}
use Rattle.ped_rules.specs.ped_steps.specs.declared.causes.Refused.TheVariants as variant
use Rattle.ped_rules.specs.ped_steps.specs.declared.changes.Change.{Change}
use Rattle.ped_rules.specs.ped_steps.specs.Causes.{Rules, NoRule, IsFirstRule}
use Rattle.ped_rules.specs.ped_steps.specs.Changes.{IsChange}
use Rattle.ped_rules.specs.ped_steps.specs.Replacing.{alone, all_kept, program_with}
use Rattle.ped_rules.specs.ped_steps.proofs.OnePlace.{one_program}
use Rattle.ped_rules.specs.Carried.{IsFirstOf as IsFirstEdge}
use Rattle.ped_rules.specs.Chains.{no_rules, also, WhereLoop}
use Rattle.ped_rules.specs.OnlyLoops.{on_loop}
use Rattle.ped_rules.specs.Steps.{transformation, Answers}
use Rattle.ped_rules.proofs.Answering.{refused_by}
use Rattle.ped_rules.proofs.Chains.{first_later, none_later}
use Rattle.ped_rules.proofs.Decided.{limit_stands, limit_not}
use Rattle.ped_rules.proofs.OneLoop.{one_loop}
use Rattle.ped_reduce.specs.declared.rules.Standing.{Standing}
use Rattle.ped_reduce.specs.Lists.{has_list}
use Rattle.ped_reduce.specs.Reducing.{has_private_or_twice, WhereNoSum, also_against_sums, carried_beside, with_listed, with_reduction, MakesReduction, IsUnlowerable, WhereReductionLimit, is_unlistable, StandsAgainstReducing, reducing}
use Rattle.ped_reduce.specs.CodeReducing.{IsFirstRefusal}
use Rattle.ped_reduce.specs.CodeRules.{IsFirstOf, behind_limit}
use Rattle.ped_reduce.proofs.ReducingRules.{one_made}
use Rattle.ped_reduce.proofs.SummingRules as rules

same_statement : (a b : StmtTree) → Some a ≡ Some b → a ≡ b
same_statement a b e = cc

-- the new program of the code is that of the step
pub listed_program : (t : ProgramTree) (n : ℕ) (names : List (List ℕ)) (h : Head) (body : StmtTrees) (f : Stmt) (new : List Stmt) → IsLoop t n h body → new ≡ f ∷ [] → alone (stmt_tree f) ≡ with_listed names h body → program_with (λ s. stmt_trees new) n t ≡ with_reduction t n names
listed_program t n names h body f new is listed made =
    one_program (λ (s : StmtTree). stmt_trees new) (on_loop (with_listed names)) n t (λ g e. ap stmt_trees listed ∙ made ∙ ap (on_loop (with_listed names)) (same_statement (Do h body) g (sym is ∙ e)))

-- the change that the code has found, or that there is none
pub some_made : (new : ProgramTree) (keep : List (ℕ × ℕ)) (found : Option Change) (change : Change) → found ≡ Some change → MatchOption found (IsValid new → ⊥) (IsChange new keep) → IsChange new keep change
some_made new keep found change is h = subst (λ (o : Option Change). MatchOption o (IsValid new → ⊥) (IsChange new keep)) is h

pub none_made : (new : ProgramTree) (keep : List (ℕ × ℕ)) (found : Option Change) → found ≡ None → MatchOption found (IsValid new → ⊥) (IsChange new keep) → IsValid new → ⊥
none_made new keep found is h = subst (λ (o : Option Change). MatchOption o (IsValid new → ⊥) (IsChange new keep)) is h

-- what the code says no to isn't so
pub not_so : (P : Type 0) (found : Bool) → IsTrue found ↔ P → found ≡ false → P → ⊥
not_so P found is none p = both_ways found none (is.1 p)

module _ (s : ℕ) (names : List (List ℕ)) (t : ProgramTree) where
  abbrev no_sum : Rules
  no_sum = also NotSum (WhereNoSum t s names) no_rules

  abbrev private : Rules
  private = also AlreadyPrivate (WhereLoop t s (is_unlistable t s names)) no_sum

  -- the rules behind those on sums
  abbrev pub limit : Rules
  limit = also Limit (WhereReductionLimit t s names) private

  no_sum_above : rules.AreAbove 17 no_sum
  no_sum_above = rules.also_above NotSum (WhereNoSum t s names) no_rules 17 (omega arith) (λ q n h. absurd h)

  private_above : rules.AreAbove 15 private
  private_above = rules.also_above AlreadyPrivate (WhereLoop t s (is_unlistable t s names)) no_sum 15 (omega arith) no_sum_above

  limit_above : rules.AreAbove 14 limit
  limit_above = rules.also_above Limit (WhereReductionLimit t s names) private 14 (omega arith) private_above

  -- the first of the rules on sums is the first of all
  pub early_first : (found : Standing) → IsFirstOf (also_against_sums s names t no_rules) (Some found) → IsFirstRule (StandsAgainstReducing s names t) found.rule found.statement
  early_first found first = rules.own_first s names t limit limit_above found.rule found.statement first

  pub refused : (r : Rule) (n : ℕ) (answer : Refused) → answer ≡ variant.Rule r n → IsFirstRule (StandsAgainstReducing s names t) r n → Answers (reducing s names) t (Err answer)
  refused r n answer is first = refused_by transformation s (StandsAgainstReducing s names) (λ u. carried_beside u s names) (MakesReduction s names) t r n answer is first

  pub no_loop_refused : (answer : Refused) → answer ≡ variant.Rule NoLoop s → ((h : Head) (body : StmtTrees) → IsLoop t s h body → ⊥) → Answers (reducing s names) t (Err answer)
  no_loop_refused answer is none = refused NoLoop s answer is (rules.own_first s names t limit limit_above NoLoop s (rules.no_loop_first s names t none))

  -- where none of the rules on sums stands
  module _ (clear : NoRule (also_against_sums s names t no_rules)) where
    behind : (r : Rule) (n : ℕ) → IsFirstRule limit r n → IsFirstRule (StandsAgainstReducing s names t) r n
    behind r n first = rules.other_first s names t limit clear r n first

    refusal : (r : Rule) (n : ℕ) (answer : Refused) → answer ≡ variant.Rule r n → IsFirstRule limit r n → IsFirstRefusal s names t (Some answer)
    refusal r n answer is first = subst (λ (a : Refused). IsFirstRefusal s names t (Some a)) (sym is) (behind r n first, tt)

    module _ (h : Head) (body : StmtTrees) (is : IsLoop t s h body) where
      abbrev loop : LoopOf t s
      loop = record { head = h; body = body; is = is }

      limited : (n : ℕ) → WhereReductionLimit t s names n → IsFirstRule limit Limit n
      limited n p = rules.here_first Limit (WhereReductionLimit t s names) private n p private_above

      -- the new program isn't valid
      pub invalid_refused : (answer : Refused) → answer ≡ variant.Rule Limit s → (IsValid (with_reduction t s names) → ⊥) → Answers (reducing s names) t (Err answer)
      invalid_refused answer same invalid =
          refused Limit s answer same
          (behind Limit s (limited s (inl (limit_stands (MakesReduction s names) t s loop (one_made s names t) (with_reduction t s names) (all_kept t) (refl, refl) invalid))))

      module _ (valid : IsValid (with_reduction t s names)) where
        not_first_case : (n : ℕ) → (IsUnlowerable t s names → ⊥) → WhereReductionLimit t s names n → ⊥
        not_first_case n lowers (inl p) = limit_not (MakesReduction s names) t s (with_reduction t s names) (all_kept t) (refl, refl) valid n p
        not_first_case n lowers (inr p) = lowers p.0

        private_here : is_unlistable t s names h body ≡ true → IsFirstRule private AlreadyPrivate s
        private_here holds = rules.here_first AlreadyPrivate (WhereLoop t s (is_unlistable t s names)) no_sum s (loop, holds, refl) no_sum_above

        true_first : (a b : Bool) → b ≡ false → (a || b) ≡ true → a ≡ true
        true_first true b p q = refl
        true_first false b p q = let wrong : true ≡ false = sym q ∙ p in absurd cc

        true_second : (a b : Bool) → b ≡ true → (a || b) ≡ true
        true_second true b e = refl
        true_second false b e = e

        -- the DO has a list already
        pub listed_refusal : (answer : Refused) → answer ≡ variant.Rule AlreadyPrivate s → has_list h body ≡ true → IsFirstRefusal s names t (Some answer)
        listed_refusal answer same has =
            refusal AlreadyPrivate s answer same
            (first_later Limit (WhereReductionLimit t s names) private (λ n. not_first_case n old) AlreadyPrivate s (private_here (true_second (has_private_or_twice t s names h body) (has_list h body) has)))
          where
            old : IsUnlowerable t s names → ⊥
            old u =
                let e = one_loop t s u.loop loop in
                let wrong : true ≡ false = sym has ∙ sym (λ i. has_list (e.0 i) (e.1 i)) ∙ u.new in absurd cc

        -- what it would be lowered to isn't valid
        pub unlowerable_refusal : (answer : Refused) → answer ≡ variant.Rule Limit s → IsUnlowerable t s names → IsFirstRefusal s names t (Some answer)
        unlowerable_refusal answer same u = refusal Limit s answer same (limited s (inr (u, refl)))

        module _ (new : has_list h body ≡ false) (lowers : IsUnlowerable t s names → ⊥) where
          -- the rules behind Limit are those on sums
          there : (q : Rule) (m : ℕ) → behind_limit s names t q m → private q m
          there q m (inl (e, w)) = inl (e, (w.0, ap (λ (b : Bool). b || has_list w.0.head w.0.body) w.1, w.2))
          there q m (inr p) = inr p

          fails : (k : LoopOf t s) → has_list k.head k.body ≡ false
          fails k = let e = one_loop t s k loop in (λ i. has_list (e.0 i) (e.1 i)) ∙ new

          back : (q : Rule) (m : ℕ) → private q m → behind_limit s names t q m
          back q m (inl (e, w)) = inl (e, (w.0, true_first (has_private_or_twice t s names w.0.head w.0.body) (has_list w.0.head w.0.body) (fails w.0) w.1, w.2))
          back q m (inr p) = inr p

          behind_first : (r : Rule) (n : ℕ) → IsFirstRule (behind_limit s names t) r n → IsFirstRule private r n
          behind_first r n first = (there r n first.0, λ q m p. first.1 q m (back q m p))

          pub late_refusal : (found : Standing) (answer : Refused) → answer ≡ variant.Rule found.rule found.statement → IsFirstOf (behind_limit s names t) (Some found) → IsFirstRefusal s names t (Some answer)
          late_refusal found answer same first =
              refusal found.rule found.statement answer same
              (first_later Limit (WhereReductionLimit t s names) private (λ n. not_first_case n lowers) found.rule found.statement (behind_first found.rule found.statement first))

          -- no rule stands
          pub nothing_stands : IsFirstOf (behind_limit s names t) None → NoRule (StandsAgainstReducing s names t)
          nothing_stands none =
              rules.none_of_both s names t limit clear
              (none_later Limit (WhereReductionLimit t s names) private (λ n. not_first_case n lowers) (λ q m p. none q m (back q m p)))

          -- a dependence forbids the step, or none does
          pub edge_refusal : (e : CodeEdge) → IsFirstOf (behind_limit s names t) None → IsFirstEdge t (carried_beside t s names) (Some e) → IsFirstRefusal s names t (Some (variant.Dependence e))
          edge_refusal e none first = ((nothing_stands none, first.0.0, first.0.1, first.0.2), first.1)

          pub no_refusal : IsFirstOf (behind_limit s names t) None → IsFirstEdge t (carried_beside t s names) None → IsFirstRefusal s names t None
          no_refusal none first = (nothing_stands none, first)

  -- the first cause that the code has found is the answer
  pub cause_answered : (answer : Refused) → IsFirstRefusal s names t (Some answer) → Answers (reducing s names) t (Err answer)
  cause_answered answer first = first

  pub change_answered : (change : Change) → IsFirstRefusal s names t None → IsChange (with_reduction t s names) (all_kept t) change → Answers (reducing s names) t (Ok change)
  change_answered change none made = (none, with_reduction t s names, all_kept t, (refl, refl), made)
