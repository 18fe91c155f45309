-- Each step whose rules are a chain of the shared ones, and that dependences forbid by a test, has a first cause or none.
use Rattle.std.proofs.Common.{◌≡◌, ◌⊎◌, ℕ, refl, sym, ap, ◌∙◌, inl, inr, Bool, true, false, List, [], ◌∷◌, All, Option, Some, None, MatchOption, subst}
use Rattle.std.proofs.lemmas.List.Elements.{All-nil, All-cons}
use Rattle.ped_tree.specs.Tree.{Head, StmtTrees, Do, ProgramTree}
use Rattle.ped_session.specs.ped_symbols.specs.NameRefusals.{IsValid}
use Rattle.ped_session.specs.ped_flow.specs.Questions.{LoopOf}
use Rattle.ped_tree.specs.NamesIn.{loop_variables}
use Rattle.ped_session.specs.ped_flow.proofs.Answering.{same_head, same_body}
use Rattle.ped_session.specs.ped_flow.specs.Answers.{IsEscape}
use Rattle.ped_session.specs.ped_flow.specs.Escapes.{escapes_of, escaping}
use Rattle.ped_session.specs.ped_flow.proofs.Escaping.{escape_is}
use Rattle.ped_session.specs.ped_flow.specs.declared.flows.Reader.{Reader}
use Rattle.ped_session.specs.ped_flow.specs.declared.flows.Reader.TheVariants.{Statement, Saved}
use Rattle.ped_session.specs.ped_rules.specs.ped_edges.specs.Edges.{Edge}
use Rattle.ped_session.specs.ped_graph.specs.Dependences.{AreEdges}
use Rattle.ped_session.specs.ped_graph.proofs.OnePane.{one_edges}
use Rattle.ped_session.specs.ped_steps.specs.declared.rules.Rule.{Rule}
use Rattle.ped_session.specs.ped_steps.specs.RuleNames.{number_of}
use Rattle.ped_session.specs.ped_steps.specs.Causes.{Rules, NoRule, IsFirstRule, Cause, rule, dependence, IsFirstForbidding, IsFirstCause}
use Rattle.ped_session.specs.ped_rules.specs.Chains.{no_rules, also, WhereLoop}
use Rattle.ped_session.specs.ped_rules.specs.Rules.{WhereNoLoop, WhereEscape, WhereLimit}
use Rattle.ped_session.specs.ped_rules.proofs.Chains.{IsChain, chain_end, first_here, first_later, none_later, none_at_end}
use Rattle.ped_session.specs.ped_rules.proofs.Decided.{loop_decided, valid_decided, limit_stands}
use Rattle.ped_session.specs.ped_rules.proofs.EscapeRule.{by_statement, by_saved, by_nothing}
use Rattle.ped_session.specs.ped_transformations.specs.ped_splits.proofs.Existence.Edges.{edges_of_program}

-- the rule names a statement, or none
abbrev pub Settled : (ℕ → Type 0) → Type 0
Settled P = (o : Option ℕ) × MatchOption o ((n : ℕ) → P n → ⊥) P

-- a first rule stands, or none
abbrev pub Found : Rules → Type 0
Found stands = ((r : Rule) × (n : ℕ) × IsFirstRule stands r n) ⊎ NoRule stands

found_end : Found no_rules
found_end = inr none_at_end

pub found_link : (r : Rule) (P : ℕ → Type 0) (others : Rules) → IsChain (number_of r) others → Settled P → Found others → Found (also r P others)
found_link r P others chain (Some n, p) rest = inl (r, n, first_here r P others n p chain)
found_link r P others chain (None, none) (inl (q, n, first)) = inl (q, n, first_later r P others none q n first)
found_link r P others chain (None, none) (inr rest) = inr (none_later r P others none rest)

-- the last rule of a chain
pub found_last : (r : Rule) (P : ℕ → Type 0) → Settled P → Found (also r P no_rules)
found_last r P settled = found_link r P no_rules (chain_end (number_of r)) settled found_end

truth : (b : Bool) → (b ≡ true) ⊎ (b ≡ false)
truth true = inl refl
truth false = inr refl

not_both : (b : Bool) → b ≡ true → b ≡ false → ⊥
not_both b p q = let f : true ≡ false = sym p ∙ q in absurd cc

-- where both name the same statement
pub settled_both : (P Q : ℕ → Type 0) → ((m n : ℕ) → P m → Q n → m ≡ n) → Settled P → Settled Q → Settled (λ n. P n × Q n)
settled_both P Q same (None, none) q = (None, λ n h. none n h.0)
settled_both P Q same (Some m, p) (None, none) = (None, λ n h. none n h.1)
settled_both P Q same (Some m, p) (Some n, q) = (Some n, (subst P (same m n p q) p, q))

module _ (t : ProgramTree) (s : ℕ) where
  pub settled_no_loop : Settled (WhereNoLoop t s)
  settled_no_loop = by (loop_decided t s)
    where
      by : LoopOf t s ⊎ (LoopOf t s → ⊥) → Settled (WhereNoLoop t s)
      by (inl l) = (None, λ n p. p.0 l)
      by (inr n) = (Some s, (n, refl))

  pub one_loop : (l m : LoopOf t s) → (l.head ≡ m.head) × (l.body ≡ m.body)
  one_loop l m = (same_head t s l.head m.head l.body m.body l.is m.is, same_body t s l.head m.head l.body m.body l.is m.is)

  -- what is asked of a statement that is a DO
  pub settled_there : (P : ℕ → Type 0) → Settled P → Settled (λ n. LoopOf t s × P n)
  settled_there P found = by (loop_decided t s) found
    where
      by : LoopOf t s ⊎ (LoopOf t s → ⊥) → Settled P → Settled (λ n. LoopOf t s × P n)
      by (inl l) (Some n, p) = (Some n, (l, p))
      by (inl l) (None, none) = (None, λ n h. none n h.1)
      by (inr none) found = (None, λ n h. none h.0)

  -- a test of the DO
  pub settled_where : (test : Head → StmtTrees → Bool) → Settled (WhereLoop t s test)
  settled_where test = by (loop_decided t s)
    where
      on : (l : LoopOf t s) → (test l.head l.body ≡ true) ⊎ (test l.head l.body ≡ false) → Settled (WhereLoop t s test)
      on l (inl e) = (Some s, (l, e, refl))
      on l (inr e) = (None, λ n p. not_both (test p.0.head p.0.body) p.1 (let same = one_loop p.0 l in (λ i. test (same.0 i) (same.1 i)) ∙ e))

      by : LoopOf t s ⊎ (LoopOf t s → ⊥) → Settled (WhereLoop t s test)
      by (inl l) = on l (truth (test l.head l.body))
      by (inr n) = (None, λ m p. n p.0)

  pub settled_escape : Settled (WhereEscape t s)
  settled_escape = by (loop_decided t s)
    where
      on : (r : Option Reader) → IsEscape t s r → Settled (WhereEscape t s)
      on (Some (Statement n)) e = (Some n, by_statement t s n e)
      on (Some Saved) e = (Some s, by_saved t s e)
      on None e = (None, by_nothing t s e)

      by : LoopOf t s ⊎ (LoopOf t s → ⊥) → Settled (WhereEscape t s)
      by (inl l) = on (escaping (escapes_of t s l.head l.body (loop_variables (Do l.head l.body)))) (escape_is t s l.head l.body l.is)
      by (inr n) = (None, λ m p. n p.0)

  -- a new program that each DO has is valid, or it isn't
  pub settled_limit : (Makes : ProgramTree → ProgramTree → List (ℕ × ℕ) → Type 0)
      → ((new other : ProgramTree) (keep more : List (ℕ × ℕ)) → Makes t new keep → Makes t other more → (new ≡ other) × (keep ≡ more))
      → (LoopOf t s → (new : ProgramTree) × (keep : List (ℕ × ℕ)) × Makes t new keep) → Settled (WhereLimit Makes t s)
  settled_limit Makes one some = by (loop_decided t s)
    where
      on : (l : LoopOf t s) (new : ProgramTree) (keep : List (ℕ × ℕ)) → Makes t new keep → IsValid new ⊎ (IsValid new → ⊥) → Settled (WhereLimit Makes t s)
      on l new keep makes (inl valid) = (None, λ n h. h.1 new keep makes valid)
      on l new keep makes (inr invalid) = (Some s, limit_stands Makes t s l one new keep makes invalid)

      by : LoopOf t s ⊎ (LoopOf t s → ⊥) → Settled (WhereLimit Makes t s)
      by (inl l) = let made = some l in on l made.0 made.1 made.2 (valid_decided made.0)
      by (inr n) = (None, λ m p. n p.0)

module _ (test : Edge → Bool) where
  -- the first dependence that passes the test, or none does
  pub first_edge : (edges : List Edge) → ((e : Edge) × IsFirstForbidding test edges e) ⊎ All (λ e. test e ≡ false) edges
  first_edge [] = inr (All-nil (λ e. test e ≡ false))
  first_edge (e ∷ edges) = by (truth (test e)) (first_edge edges)
    where
      by : (test e ≡ true) ⊎ (test e ≡ false) → ((f : Edge) × IsFirstForbidding test edges f) ⊎ All (λ f. test f ≡ false) edges → ((f : Edge) × IsFirstForbidding test (e ∷ edges) f) ⊎ All (λ f. test f ≡ false) (e ∷ edges)
      by (inl p) rest = inl (e, ([], edges, refl, p, All-nil (λ f. test f ≡ false)))
      by (inr q) (inl (f, first)) = inl (f, (e ∷ first.0, first.1, ap (λ (es : List Edge). e ∷ es) first.2, first.3, All-cons (λ g. test g ≡ false) e first.0 q first.4))
      by (inr q) (inr all) = inr (All-cons (λ g. test g ≡ false) e edges q all)

-- so there is a first cause, or none
pub some_cause : (t : ProgramTree) (stands : Rules) (test : Edge → Bool) → Found stands → (c : Option Cause) × IsFirstCause t stands test c
some_cause t stands test (inl (r, n, first)) = (Some (rule r n), first)
some_cause t stands test (inr none) = by (edges_of_program t)
  where
    on : (edges : List Edge) → AreEdges t edges → ((e : Edge) × IsFirstForbidding test edges e) ⊎ All (λ e. test e ≡ false) edges → (c : Option Cause) × IsFirstCause t stands test c
    on edges are (inl (e, first)) = (Some (dependence e), (none, edges, are, first))
    on edges are (inr all) = (None, (none, λ others they. subst (λ (es : List Edge). All (λ e. test e ≡ false) es) (one_edges t edges others are they) all))

    by : (edges : List Edge) × AreEdges t edges → (c : Option Cause) × IsFirstCause t stands test c
    by (edges, are) = on edges are (first_edge test edges)
