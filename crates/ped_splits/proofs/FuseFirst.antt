-- Which rule stands first against `fuse`, by what the code has found; and that none stands.
use Rattle.std.proofs.Common.{◌≡◌, ℕ, inl, inr, refl, sym, subst, arith}
use Rattle.ped_tree.specs.Tree.{ExprTree, Head, StmtTrees, ProgramTree}
use Rattle.ped_rules.specs.Rules.{IsBoundOf}
use Rattle.ped_rules.specs.ped_symbols.specs.Kinds.{table_of}
use Rattle.ped_rules.specs.ped_symbols.specs.NameRefusals.{IsValid}
use Rattle.ped_rules.specs.ped_flow.specs.PlainBounds.{IsPlain}
use Rattle.ped_rules.specs.ped_flow.specs.Questions.{IsLoop}
use Rattle.ped_rules.specs.ped_flow.proofs.Answering.{same_head}
use Rattle.ped_rules.specs.ped_steps.specs.declared.rules.Rule.{Rule}
use Rattle.ped_rules.specs.ped_steps.specs.declared.rules.Rule.TheVariants.{NoLoop, ParallelState, HasPrivate, IndexEscapes, BoundNotPlain, NoNeighbour, Limit}
use Rattle.ped_rules.specs.ped_steps.specs.Causes.{Rules, NoRule, IsFirstRule}
use Rattle.ped_rules.specs.Chains.{no_rules}
use Rattle.ped_rules.specs.Rules.{WhereNoLoop, is_parallel, has_private, WhereUnplain}
use Rattle.ped_rules.proofs.Chains.{chain_end, first_here, first_later, none_later, none_at_end}
use Rattle.ped_rules.proofs.Decided.{limit_stands, limit_not}
use Rattle.ped_splits.specs.Distributing.{IsItsBound}
use Rattle.ped_splits.specs.Neighbours.{fused, next_number, kept_without}
use Rattle.ped_splits.specs.Fusing.{Match, MakesFused, WhereEither, WhereFusionEscapes, WhereNoMatch, WhereFusedLimit, StandsAgainstFusion}
use Rattle.ped_splits.proofs.Here.{here, not_no_loop}
use Rattle.ped_splits.proofs.FuseOne.{one_made}
use Rattle.ped_splits.proofs.FuseRules as rules

module _ (s : ℕ) (t : ProgramTree) where
  abbrev stands : Rules
  stands = StandsAgainstFusion s t

  -- the statement is no DO
  pub no_loop_first : ((h : Head) (body : StmtTrees) → IsLoop t s h body → ⊥) → IsFirstRule stands NoLoop s
  no_loop_first none = first_here NoLoop (WhereNoLoop t s) (rules.state s t) s ((λ l. none l.head l.body l.is), refl) (rules.state_chain s t)

  module _ (h : Head) (body : StmtTrees) (is : IsLoop t s h body) where
    behind_loop : (r : Rule) (n : ℕ) → IsFirstRule (rules.state s t) r n → IsFirstRule stands r n
    behind_loop r n first = first_later NoLoop (WhereNoLoop t s) (rules.state s t) (not_no_loop t s h body is) r n first

    pub state_first : WhereEither t s is_parallel s → IsFirstRule stands ParallelState s
    state_first holds = behind_loop ParallelState s (first_here ParallelState (WhereEither t s is_parallel) (rules.shared s t) s holds (rules.shared_chain s t))

    -- a bound isn't plain
    unplain_there : (e : ExprTree) → IsBoundOf h e → (IsPlain (table_of t).constants t s e → ⊥) → WhereUnplain t s (IsItsBound t s) s
    unplain_there e bound not_plain = (here t s h body is, ((e, (refl, here t s h body is, bound), not_plain), λ n p. let at : n ≡ s = p.1.0 in omega (arith, at)))

    module _ (first : IsPlain (table_of t).constants t s h.first) (last : IsPlain (table_of t).constants t s h.last) where
      no_unplain : (n : ℕ) → WhereUnplain t s (IsItsBound t s) n → ⊥
      no_unplain n p =
          p.1.0.2 (subst (λ (m : ℕ). IsPlain (table_of t).constants t m p.1.0.0) (sym p.1.0.1.0)
          (is_plain p.1.0.0 (subst (λ (g : Head). IsBoundOf g p.1.0.0) (same_head t s p.1.0.1.1.head h p.1.0.1.1.body body p.1.0.1.1.is is) p.1.0.1.2)))
        where
          is_plain : (e : ExprTree) → IsBoundOf h e → IsPlain (table_of t).constants t s e
          is_plain e (inl same) = subst (λ (a : ExprTree). IsPlain (table_of t).constants t s a) (sym same) first
          is_plain e (inr same) = subst (λ (a : ExprTree). IsPlain (table_of t).constants t s a) (sym same) last

    module _ (serial : (n : ℕ) → WhereEither t s is_parallel n → ⊥) where
      behind_state : (r : Rule) (n : ℕ) → IsFirstRule (rules.shared s t) r n → IsFirstRule stands r n
      behind_state r n first = behind_loop r n (first_later ParallelState (WhereEither t s is_parallel) (rules.shared s t) serial r n first)

      pub shared_first : WhereEither t s has_private s → IsFirstRule stands HasPrivate s
      shared_first holds = behind_state HasPrivate s (first_here HasPrivate (WhereEither t s has_private) (rules.escape s t) s holds (rules.escape_chain s t))

      module _ (unshared : (n : ℕ) → WhereEither t s has_private n → ⊥) where
        behind_shared : (r : Rule) (n : ℕ) → IsFirstRule (rules.escape s t) r n → IsFirstRule stands r n
        behind_shared r n first = behind_state r n (first_later HasPrivate (WhereEither t s has_private) (rules.escape s t) unshared r n first)

        pub escape_first : (n : ℕ) → WhereFusionEscapes t s n → IsFirstRule stands IndexEscapes n
        escape_first n escapes = behind_shared IndexEscapes n (first_here IndexEscapes (WhereFusionEscapes t s) (rules.plain s t) n escapes (rules.plain_chain s t))

        module _ (contained : (n : ℕ) → WhereFusionEscapes t s n → ⊥) where
          behind_escape : (r : Rule) (n : ℕ) → IsFirstRule (rules.plain s t) r n → IsFirstRule stands r n
          behind_escape r n first = behind_shared r n (first_later IndexEscapes (WhereFusionEscapes t s) (rules.plain s t) contained r n first)

          pub plain_first : (e : ExprTree) → IsBoundOf h e → (IsPlain (table_of t).constants t s e → ⊥) → IsFirstRule stands BoundNotPlain s
          plain_first e bound not_plain =
              behind_escape BoundNotPlain s (first_here BoundNotPlain (WhereUnplain t s (IsItsBound t s)) (rules.alone_rule s t) s (unplain_there e bound not_plain) (rules.alone_chain s t))

          module _ (first : IsPlain (table_of t).constants t s h.first) (last : IsPlain (table_of t).constants t s h.last) where
            behind_plain : (r : Rule) (n : ℕ) → IsFirstRule (rules.alone_rule s t) r n → IsFirstRule stands r n
            behind_plain r n found = behind_escape r n (first_later BoundNotPlain (WhereUnplain t s (IsItsBound t s)) (rules.alone_rule s t) (no_unplain first last) r n found)

            pub alone_first : (Match t s → ⊥) → IsFirstRule stands NoNeighbour s
            alone_first none = behind_plain NoNeighbour s (first_here NoNeighbour (WhereNoMatch t s) (rules.limit s t) s (here t s h body is, none, refl) (rules.limit_chain s t))

            module _ (m : Match t s) where
              not_alone : (n : ℕ) → WhereNoMatch t s n → ⊥
              not_alone n p = p.1 m

              makes : MakesFused s t (fused m.neighbour) (kept_without (next_number m.neighbour) t)
              makes = (m, refl, refl)

              pub limit_first : (IsValid (fused m.neighbour) → ⊥) → IsFirstRule stands Limit s
              limit_first invalid =
                  behind_plain Limit s
                  (first_later NoNeighbour (WhereNoMatch t s) (rules.limit s t) not_alone Limit s
                  (first_here Limit (WhereFusedLimit t s) no_rules s
                  (m, limit_stands (MakesFused s) t s (here t s h body is) (one_made s t) (fused m.neighbour) (kept_without (next_number m.neighbour) t) makes invalid) (chain_end 15)))

              pub nothing_stands : IsValid (fused m.neighbour) → NoRule stands
              nothing_stands valid =
                  none_later NoLoop (WhereNoLoop t s) (rules.state s t) (not_no_loop t s h body is)
                  (none_later ParallelState (WhereEither t s is_parallel) (rules.shared s t) serial
                  (none_later HasPrivate (WhereEither t s has_private) (rules.escape s t) unshared
                  (none_later IndexEscapes (WhereFusionEscapes t s) (rules.plain s t) contained
                  (none_later BoundNotPlain (WhereUnplain t s (IsItsBound t s)) (rules.alone_rule s t) (no_unplain first last)
                  (none_later NoNeighbour (WhereNoMatch t s) (rules.limit s t) not_alone
                  (none_later Limit (WhereFusedLimit t s) no_rules (λ n p. limit_not (MakesFused s) t s (fused m.neighbour) (kept_without (next_number m.neighbour) t) makes valid n p.1) none_at_end))))))
