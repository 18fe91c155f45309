-- `strip` is lawful.
use Rattle.std.proofs.Common.{Bool, List, None, Option, Some, [], ap, arith, codes, false, if◌then◌else◌, inl, inr, int_eq, negsuc, not, pos, refl, subst, suc, sym, true, zero, ℕ, ℤ, ◌++◌, ◌+◌, ◌<◌, ◌∙◌, ◌∷◌, ◌≡◌, ◌≤ℤ◌, ◌≤◌}
use Rattle.std.proofs.lemmas.Bool.{both_ways, or_parts}
use Rattle.std.proofs.lemmas.Bool.Decides.{Decides-int_eq}
use Rattle.std.proofs.lemmas.Int.{ints}
use Rattle.std.specs.Fmt.{decimal}
use Rattle.std.specs.List.{flat_map}
use Rattle.ped_base.proofs.NameEquality.{same_is, same_itself}
use Rattle.ped_base.specs.Lists.{has_some, is_among, is_same_text}
use Rattle.ped_rules.proofs.HeadLaws.OneHead.{ClearedLaw, TrustedLaw}
use Rattle.ped_rules.proofs.HeadLaws.PlainDecided.{OrNot, plain_decided}
use Rattle.ped_rules.proofs.FreshNames.{most_is, numbered_name}
use Rattle.ped_rules.proofs.KeptNumbers.{moved_one_to_one}
use Rattle.ped_rules.specs.Fresh.{first_free, most_numbered, numbered_names, occurs, program_name}
use Rattle.ped_rules.specs.ped_steps.specs.Runs.Meaning.{Keeps}
use Rattle.ped_rules.proofs.KeptOnData.{owes_by_tidiness}
use Rattle.ped_rules.specs.Lawful.{IsFaithful, IsLawful}
use Rattle.ped_rules.specs.OnlyLoops.{on_loop}
use Rattle.ped_rules.specs.Rules.{is_one, isnt_allowed}
use Rattle.ped_rules.specs.declared.fresh.NewName.TheVariants.{Variable}
use Rattle.ped_rules.specs.ped_loop_runs.specs.Unrejected.{IsTrusted}
use Rattle.ped_rules.specs.ped_steps.proofs.OnePlace.{one_program}
use Rattle.ped_rules.specs.ped_steps.specs.Causes.{NoRule}
use Rattle.ped_rules.specs.ped_steps.specs.Replacing.{program_with}
use Rattle.ped_rules.specs.ped_flow.specs.PlainBounds.{IsPlain}
use Rattle.ped_rules.specs.ped_flow.specs.Questions.{IsContained, LoopOf}
use Rattle.ped_rules.specs.ped_eval.specs.Outcomes.{setting_of}
use Rattle.ped_rules.specs.ped_graph.specs.Keeping.{IsOneToOne}
use Rattle.ped_rules.specs.ped_symbols.specs.Kinds.{kind_in, names_of}
use Rattle.ped_rules.specs.ped_symbols.specs.NameRefusals.{IsValid}
use Rattle.ped_reindex.proofs.Determined.{determined_strip}
use Rattle.ped_reindex.proofs.Sizes.{strip_sizes}
use Rattle.ped_reindex.proofs.StripsKeeps.{IsStripping, strips_keep}
use Rattle.ped_reindex.proofs.StripsKinds.{strip_kinds}
use Rattle.ped_reindex.proofs.StripsTrust.{stays_trusted_strips}
use Rattle.ped_reindex.specs.Stripping.{StandsAgainstStripping, strip_variable, stripped, stripping, with_strips}
use Rattle.ped_tree.specs.Constants.ConstantExpressions.{constant_value}
use Rattle.ped_tree.specs.Grammar.Words.{is_name}
use Rattle.ped_tree.specs.Tree.{Do, ProgramTree, StmtTree}
use Rattle.ped_reindex.proofs.StripRules as rules

same_statement : (a b : StmtTree) → Some a ≡ Some b → a ≡ b
same_statement a b e = cc

-- a new name doesn't occur in the program
record IsFree (t : ProgramTree) (letters : List ℕ) (first count : ℕ) (x : List ℕ) : Type 0 where
  absent : occurs t x ≡ false
  number : ℕ
  from : first ≤ number
  to : number < first + count
  is : x ≡ letters ++ decimal number

free_name : (t : ProgramTree) (letters : List ℕ) (count first : ℕ) (x : List ℕ) → first_free t (numbered_names letters first count) ≡ Some x → IsFree t letters first count x
free_name t letters zero first x e = absurd cc
free_name t letters (suc count) first x e = by (occurs t (letters ++ decimal first)) refl e (free_name t letters count (first + 1) x)
  where
    one_name : (y z : List ℕ) → Some y ≡ Some z → y ≡ z
    one_name y z h = cc

    by : (b : Bool) → occurs t (letters ++ decimal first) ≡ b → (if b then first_free t (numbered_names letters (first + 1) count) else Some (letters ++ decimal first)) ≡ Some x
        → (first_free t (numbered_names letters (first + 1) count) ≡ Some x → IsFree t letters (first + 1) count x) → IsFree t letters first (suc count) x
    by true h k more =
        let r = more k in
        let low = r.from in
        let high = r.to in
        record { absent = r.absent; number = r.number; from = omega (arith, low); to = omega (arith, high); is = r.is }
    by false h k more =
        let same : letters ++ decimal first ≡ x = one_name (letters ++ decimal first) x k in
        record { absent = ap (occurs t) (sym same) ∙ h; number = first; from = omega arith; to = omega arith; is = sym same }

named_so : (x y : List ℕ) (b : Bool) → (if b then Some x else None) ≡ Some y → b ≡ true
named_so x y true e = refl
named_so x y false e = absurd cc

module _ (t : ProgramTree) (w : List ℕ) (fresh : strip_variable t ≡ Some w) where
  its : IsFree t (codes "IS") 1 most_numbered w
  its = free_name t (codes "IS") most_numbered 1 w fresh

  new_absent : is_among w (names_of t) ≡ false
  new_absent = (or_parts (is_among w (names_of t)) (is_among w (flat_map program_name t.decls)) its.absent).0

  new_name : is_name w ≡ true
  new_name =
      let high = its.to in
      let most = most_is in
      ap is_name its.is
      ∙ named_so (codes "IS" ++ decimal its.number) (codes "IS" ++ decimal its.number) (is_name (codes "IS" ++ decimal its.number)) (numbered_name Variable its.number (omega (arith, high, most)))

module _ (t : ProgramTree) (valid : IsValid t) (s : ℕ) (K : ℕ) (some : 2 ≤ K) (few : K ≤ 1000) (none : NoRule (StandsAgainstStripping s (pos K) t)) (w : List ℕ) (fresh : strip_variable t ≡ Some w) where
  loop : LoopOf t s
  loop = rules.its_loop s (pos K) t none

  made : stripped t s (pos K) w ≡ program_with (λ z. with_strips (pos K) w loop.head loop.body) s t
  made = one_program (on_loop (with_strips (pos K) w)) (λ z. with_strips (pos K) w loop.head loop.body) s t (λ g e. ap (on_loop (with_strips (pos K) w)) (same_statement g (Do loop.head loop.body) (sym e ∙ loop.is)))

  serial : loop.head.parallel ≡ false
  serial = rules.is_serial s (pos K) t none loop

  private : loop.head.private ≡ []
  private = by loop.head.private (rules.is_shared s (pos K) t none loop)
    where
      by : (xs : List (List ℕ)) → has_some xs ≡ false → xs ≡ []
      by [] e = refl
      by (x ∷ xs) e = absurd cc

  contained : IsContained t s
  contained = rules.is_contained s (pos K) t none

  step : constant_value (setting_of t).constants loop.head.step ≡ Some (pos 1)
  step = by (constant_value (setting_of t).constants loop.head.step) (rules.has_unit s (pos K) t none loop)
    where
      one_is : (m : ℤ) (b : Bool) → int_eq m (pos 1) ≡ b → not b ≡ false → m ≡ pos 1
      one_is m true e h = (Decides-int_eq m (pos 1)).0 e
      one_is m false e h = absurd cc

      by : (o : Option ℤ) → isnt_allowed is_one o ≡ false → o ≡ Some (pos 1)
      by None e = absurd cc
      by (Some m) e = ap (λ (n : ℤ). Some n) (one_is m (int_eq m (pos 1)) refl e)

  plain : IsPlain (setting_of t).constants t s loop.head.last
  plain = by (plain_decided (setting_of t).constants t s loop.head.last)
    where
      by : OrNot (IsPlain (setting_of t).constants t s loop.head.last) → IsPlain (setting_of t).constants t s loop.head.last
      by (inl p) = p
      by (inr not) = absurd (rules.is_plain s (pos K) t none loop not)

  stripping_is : IsStripping t (stripped t s (pos K) w) s loop K w
  stripping_is = record {
    valid = valid;
    new_valid = rules.is_valid s (pos K) t none w fresh;
    new = made;
    some = some;
    few = few;
    name = new_name t w fresh;
    absent = new_absent t w fresh;
    kinds = λ y apart. ap (λ (u : ProgramTree). kind_in u y) made ∙ strip_kinds t valid s loop K some w private (pos 1) step y (text_apart y apart);
    step = step;
    serial = serial;
    private = private;
    contained = contained;
    plain = plain;
  }
    where
      text_apart : (y : List ℕ) → is_same_text w y ≡ false → is_same_text y w ≡ false
      text_apart y apart = go (is_same_text y w) refl
        where
          go : (b : Bool) → is_same_text y w ≡ b → b ≡ false
          go true e = absurd (both_ways (is_same_text w y) apart (ap (is_same_text w) (same_is y w e) ∙ same_itself w))
          go false e = refl

  strip_keeps : Keeps t (stripped t s (pos K) w)
  strip_keeps = strips_keep t (stripped t s (pos K) w) s loop K w stripping_is

  strip_trusted : TrustedLaw → ClearedLaw → IsTrusted t → IsTrusted (stripped t s (pos K) w)
  strip_trusted law cleared trusted = subst IsTrusted (sym made) (stays_trusted_strips t valid s loop contained K w (new_name t w fresh) (new_absent t w fresh) serial private law cleared trusted)

-- for each size that is allowed
module _ (t : ProgramTree) (valid : IsValid t) (s : ℕ) where
  keeps_it : (k : ℤ) → pos 2 ≤ℤ k → k ≤ℤ pos 1000 → NoRule (StandsAgainstStripping s k t) → (w : List ℕ) → strip_variable t ≡ Some w → Keeps t (stripped t s k w)
  keeps_it (pos K) low high none w fresh = strip_keeps t valid s K (omega (arith, ints, low)) (omega (arith, ints, high)) none w fresh
  keeps_it (negsuc n) low high none w fresh = absurd (omega (arith, ints, low))

  may_be_trusted : (k : ℤ) → pos 2 ≤ℤ k → k ≤ℤ pos 1000 → NoRule (StandsAgainstStripping s k t) → (w : List ℕ) → strip_variable t ≡ Some w → TrustedLaw → ClearedLaw → IsTrusted t → IsTrusted (stripped t s k w)
  may_be_trusted (pos K) low high none w fresh = strip_trusted t valid s K (omega (arith, ints, low)) (omega (arith, ints, high)) none w fresh
  may_be_trusted (negsuc n) low high none w fresh = absurd (omega (arith, ints, low))

pub lawful_strip : TrustedLaw → ClearedLaw → (s : ℕ) (k : ℤ) → IsLawful (stripping s k)
lawful_strip law cleared s k =
    let known = determined_strip s k in
    record {
      one_cause = known.one_cause;
      one_made = known.one_made;
      one_to_one = λ t new keep p. subst IsOneToOne (sym p.3) (moved_one_to_one t s 1);
      some_made = known.some_made;
      keeps = λ t new keep valid none p trusted.
          let sizes = strip_sizes k (rules.is_good s k t none.0) in
          subst (IsFaithful t) (sym p.2) (record { trusted = may_be_trusted t valid s k sizes.0 sizes.1 none.0 p.0 p.1 law cleared trusted; keeps = keeps_it t valid s k sizes.0 sizes.1 none.0 p.0 p.1 });
      keeps_on = λ t new keep data_bytes valid none p. owes_by_tidiness (stripping s k) t new data_bytes (λ tidy.
          let sizes = strip_sizes k (rules.is_good s k t none.0) in
          subst (Keeps t) (sym p.2) (keeps_it t valid s k sizes.0 sizes.1 none.0 p.0 p.1));
    }
