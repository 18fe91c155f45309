-- The rules that stand against `inline`, one behind the other; and what is so where none stands.
use Rattle.std.proofs.Common.{◌≡◌, ◌⊎◌, ℕ, inl, inr, List, Option, Some, None, refl, sym, ap, ◌∙◌, arith}
use Rattle.ped_tree.specs.Tree.{StmtTree, StmtTrees, ProgramTree}
use Rattle.ped_tree.specs.Numbering.{statement_with}
use Rattle.ped_rules.specs.Chains.{no_rules, also}
use Rattle.ped_rules.proofs.Chains.{IsChain, chain_end, chain_link, first_here, first_later, none_later, not_this, not_those, none_at_end}
use Rattle.ped_rules.proofs.Decided.{valid_decided}
use Rattle.ped_rules.specs.ped_symbols.specs.NameRefusals.{IsValid}
use Rattle.ped_rules.specs.ped_steps.specs.declared.rules.Rule.TheVariants.{Limit, NoCall}
use Rattle.ped_rules.specs.ped_steps.specs.Causes.{Rules, NoRule, IsFirstRule}
use Rattle.ped_inline.specs.Blocks.{block_body, IsBlock}
use Rattle.ped_inline.specs.Inlining.{inlined, MakesInlined, WhereBlockLimit, WhereNoCall, StandsAgainstInlining}

pub same_statement : (a b : StmtTree) → Some a ≡ Some b → a ≡ b
same_statement a b e = cc

none_some : {A : Type 0} (a : A) → None ≡ Some a → ⊥
none_some a e = cc

module _ (s : ℕ) where
  pub one_made : (t new other : ProgramTree) (keep more : List (ℕ × ℕ)) → MakesInlined s t new keep → MakesInlined s t other more → (new ≡ other) × (keep ≡ more)
  one_made t new other keep more p q = (p.0 ∙ sym q.0, p.1 ∙ sym q.1)

  module _ (t : ProgramTree) where
    abbrev pub call : Rules
    call = also NoCall (WhereNoCall t s) no_rules

    abbrev stands : Rules
    stands = StandsAgainstInlining s t

    pub call_chain : IsChain 15 call
    call_chain = chain_link NoCall (WhereNoCall t s) no_rules 15 (omega arith) (λ m n a b. a.1 ∙ sym b.1) (chain_end 20)

    pub chain : IsChain 0 stands
    chain = chain_link Limit (WhereBlockLimit t s) call 0 (omega arith) (λ m n a b. a.2 ∙ sym b.2) call_chain

    -- the statement is no marked block
    pub no_call_first : ((body : StmtTrees) → IsBlock t s body → ⊥) → IsFirstRule stands NoCall s
    no_call_first none = first_later Limit (WhereBlockLimit t s) call (λ n p. none p.0.0 p.0.1) NoCall s (first_here NoCall (WhereNoCall t s) no_rules s (none, refl) (chain_end 20))

    module _ (body : StmtTrees) (is : IsBlock t s body) where
      pub limit_first : (IsValid (inlined t s) → ⊥) → IsFirstRule stands Limit s
      limit_first invalid = first_here Limit (WhereBlockLimit t s) call s ((body, is), invalid, refl) call_chain

      pub nothing_stands : IsValid (inlined t s) → NoRule stands
      nothing_stands valid = none_later Limit (WhereBlockLimit t s) call (λ n p. p.1 valid) (none_later NoCall (WhereNoCall t s) no_rules (λ n p. p.0 body is) none_at_end)

    -- a statement is a marked block, or it isn't
    pub block_decided : ((body : StmtTrees) × IsBlock t s body) ⊎ ((body : StmtTrees) → IsBlock t s body → ⊥)
    block_decided = by (statement_with s t) refl
      where
        of_it : (g : StmtTree) → statement_with s t ≡ Some g → (o : Option StmtTrees) → block_body g ≡ o → ((body : StmtTrees) × IsBlock t s body) ⊎ ((body : StmtTrees) → IsBlock t s body → ⊥)
        of_it g is (Some body) e = inl (body, record { statement = g; is = is; opens = e })
        of_it g is None e = inr (λ body b. none_some body (sym e ∙ (ap block_body (same_statement g b.statement (sym is ∙ b.is)) ∙ b.opens)))

        by : (o : Option StmtTree) → statement_with s t ≡ o → ((body : StmtTrees) × IsBlock t s body) ⊎ ((body : StmtTrees) → IsBlock t s body → ⊥)
        by None e = inr (λ body b. none_some b.statement (sym e ∙ b.is))
        by (Some g) e = of_it g e (block_body g) refl

    -- where no rule stands
    module _ (none : NoRule stands) where
      pub its_block : (body : StmtTrees) × IsBlock t s body
      its_block = by block_decided
        where
          by : ((body : StmtTrees) × IsBlock t s body) ⊎ ((body : StmtTrees) → IsBlock t s body → ⊥) → (body : StmtTrees) × IsBlock t s body
          by (inl b) = b
          by (inr n) = absurd (not_this NoCall (WhereNoCall t s) no_rules (not_those Limit (WhereBlockLimit t s) call none) s (n, refl))

      pub is_valid : IsValid (inlined t s)
      is_valid = by (valid_decided (inlined t s))
        where
          by : IsValid (inlined t s) ⊎ (IsValid (inlined t s) → ⊥) → IsValid (inlined t s)
          by (inl v) = v
          by (inr n) = absurd (not_this Limit (WhereBlockLimit t s) call none s (its_block, n, refl))
