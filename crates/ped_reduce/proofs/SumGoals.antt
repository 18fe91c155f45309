-- What is said of a DO whose sums are kept apart, in order: each statement by itself. Nothing is proved here: that such a program means the same is proved in SumKeeps, and these statements in SumLive, SumFlags, SumApart, SumTrusted and SumOrder.
use Rattle.std.proofs.Common.{◌≡◌, ℕ, ◌+◌, ◌-◌, ℤ, List, ◌++◌, Bool, true, false, Some}
use Rattle.std.specs.List.{range_with_len}
use Rattle.ped_base.specs.Lists.{is_among}
use Rattle.ped_tree.specs.Grammar.Words.{is_name}
use Rattle.ped_tree.specs.NamesIn.{all_loop_variables}
use Rattle.ped_tree.specs.Tree.{ProgramTree}
use Rattle.ped_rules.specs.ped_symbols.specs.Kinds.{names_of, table_of}
use Rattle.ped_rules.specs.ped_symbols.specs.NameRefusals.{IsValid}
use Rattle.ped_rules.specs.ped_flow.specs.Questions.{LoopOf, IsContained}
use Rattle.ped_rules.specs.ped_laws.specs.Acts.Orders.{IsIn}
use Rattle.ped_rules.specs.ped_steps.specs.Replacing.{all_replaced}
use Rattle.ped_rules.specs.ped_steps.specs.Runs.Meaning.{Keeps}
use Rattle.ped_rules.specs.ped_loop_runs.specs.Unrejected.{IsTrusted}
use Rattle.ped_rules.specs.OnlyLoops.{on_loop}
use Rattle.ped_rules.specs.Spans.{Span, span_of, spans_far}
use Rattle.ped_rules.specs.Scalars.{is_scalar}
use Rattle.ped_rules.specs.Scalars.{is_in_parallel}
use Rattle.ped_rules.specs.Scalars.{is_private_near}
use Rattle.ped_reduce.specs.Lists.{list_of, without_list}
use Rattle.ped_reduce.specs.Lowering.{Partials, declarations, lowered_loop, Lowered, not_lowered, lowered_at}
use Rattle.ped_reduce.specs.Reducing.{IsLive, Lowers}
use Rattle.ped_reduce.proofs.SumStores.{is_array_of, HaveArrays}
use Rattle.ped_reduce.proofs.SumBodies.{AreClear}
use Rattle.ped_reduce.proofs.SumExits.{AllDistinct}
use Rattle.ped_reduce.proofs.SumKeeps.{IsKeptApart}

-- the program in which the sums of a DO are kept apart, in a PARALLEL DO or in order
abbrev pub kept_apart : Bool → ProgramTree → (s : ℕ) → List Partials → Span → ProgramTree
kept_apart parallel t s ps v = record { decls = t.decls ++ declarations v ps; body = all_replaced (on_loop (lowered_loop parallel ps)) s t.body 1 }

-- what is asked of one program: the DO is no PARALLEL DO and stands in none; nothing in it reads its variables elsewhere than in their bodies, and they aren't live behind it; its bounds are constant, and literals have its values; the scalars are scalars of the program, of no DO's variable and private nowhere near; sums alone refer to them; and each has three arrays of its own that don't occur
pub record MayKeepApart (t : ProgramTree) (s : ℕ) (loop : LoopOf t s) (ps : List Partials) (v : Span) : Type 0 where
  pub valid : IsValid t
  pub in_order : is_in_parallel t s loop.head loop.body ≡ false
  pub contained : IsContained t s
  pub spans : span_of (table_of t).constants loop.head ≡ Some v
  pub near : spans_far v ≡ false
  pub scalar : (p : Partials) → IsIn p ps → is_scalar t p.scalar ≡ true
  pub no_loop : (p : Partials) → IsIn p ps → is_among p.scalar (all_loop_variables t.body) ≡ false
  pub shared : (p : Partials) → IsIn p ps → is_private_near t s loop.head loop.body p.scalar ≡ false
  pub clear : AreClear ps loop.head.variable (without_list loop.body)
  pub arrays : HaveArrays ps
  pub distinct : AllDistinct ps
  pub name : (p : Partials) (x : List ℕ) → IsIn p ps → is_array_of p x ≡ true → is_name x ≡ true
  pub fresh : (p : Partials) (x : List ℕ) → IsIn p ps → is_array_of p x ≡ true → is_among x (names_of t) ≡ false

-- 1. a list that is live in t may be kept apart in what has come of t by lowering the lists before it: its rules, which are asked of t, hold there too
abbrev pub LiveMayKeepApart : Type 0
LiveMayKeepApart = (t : ProgramTree) (s : ℕ) (p q w : Lowered) → IsValid t → IsValid p.tree → Lowers t (range_with_len 1 (s - 1)) (not_lowered t) p → (live : IsLive t s p q) → lowered_at false p s (list_of live.loop.body) ≡ Some w
    → (loop : LoopOf p.tree (s + p.more)) × (ps : List Partials) × (v : Span) × MayKeepApart p.tree (s + p.more) loop ps v × (w.tree ≡ kept_apart false p.tree (s + p.more) ps v) × (q.tree ≡ kept_apart true p.tree (s + p.more) ps v)

-- 2. a program with one flag less is valid, too: only the printed length of the DO statement is another, and the pairs are counted without it
abbrev pub FlagOff : Type 0
FlagOff = (t : ProgramTree) (s : ℕ) (ps : List Partials) (v : Span) → IsValid (kept_apart true t s ps v) → IsValid (kept_apart false t s ps v)

-- 3. the declarations behind the others give the new arrays their bounds, and leave all other names and the constants as they are; then, and by the rules, the law of SumKeeps may be used
abbrev pub DeclaredApart : Type 0
DeclaredApart = (t : ProgramTree) (s : ℕ) (loop : LoopOf t s) (ps : List Partials) (v : Span) → MayKeepApart t s loop ps v → IsValid (kept_apart false t s ps v) → (a : ℤ) × (b : ℤ) × IsKeptApart t (kept_apart false t s ps v) s loop ps a b

-- 4. the new program may be trusted where the old one may: no PARALLEL DO comes, the DO of the exits has the variable of the old DO, and the scalars are variables of no DO. The law of exchanged statements doesn't give it, since it asks that these write no name that the old ones don't: they write the new arrays
abbrev pub KeptApartTrusted : Type 0
KeptApartTrusted = (t : ProgramTree) (s : ℕ) (loop : LoopOf t s) (ps : List Partials) (v : Span) → MayKeepApart t s loop ps v → IsValid (kept_apart false t s ps v) → IsTrusted t → IsTrusted (kept_apart false t s ps v)

-- the law: sums in order mean the same, at each list that is live, behind those before it
abbrev pub SumsInOrder : Type 0
SumsInOrder = (t : ProgramTree) (s : ℕ) (p q w : Lowered) → IsValid t → Lowers t (range_with_len 1 (s - 1)) (not_lowered t) p → IsValid p.tree → (live : IsLive t s p q) → lowered_at false p s (list_of live.loop.body) ≡ Some w → IsValid w.tree × Keeps p.tree w.tree × (IsTrusted p.tree → IsTrusted w.tree)
