-- DO loops: their entry, their iterations and their exit (ANSI X3.9-1978, section 11.10; ParaScope; this project).
use Rattle.std.specs.Prelude.{ℕ, suc, ◌-◌, ◌^◌, ℤ, pos, neg_ℤ, ◌+ℤ◌, ◌-ℤ◌, ◌*ℤ◌, int_le, int_div, List, [], ◌∷◌, ◌++◌, map, Bool, true, false, ◌&&◌, ◌==◌, Result, Ok, Err, if◌then◌else◌}
use Rattle.std.specs.Option.{unwrap_or}
use Rattle.std.specs.Ordering.{nat_cmp}
use Rattle.std.specs.declared.cmp.Ordering.{Ordering}
use Rattle.std.specs.declared.cmp.Ordering.TheVariants.{Less, Equal, Greater}
use Rattle.std.specs.Cmp.Lexicographic.{slice_cmp}
use Rattle.ped_tree.specs.Tree.{Head, StmtTree, StmtTrees, Assign, If, Do, Print, Read, Stop, Comment, no_stmts, more_stmts}
use Rattle.ped_tree.specs.Constants.ConstantExpressions.{constant_value}
use Rattle.ped_tree.specs.NamesIn.{all_loop_variables}
use Rattle.ped_store.specs.Stores.{Content, Undefined, Number, Store, out_of_range}
use Rattle.ped_store.specs.Storage.{natural}
use Rattle.ped_store.specs.Acts.{Touch}
use Rattle.ped_eval.specs.Scopes.{Setting, Frame, Scope, cell_of, Names}
use Rattle.ped_eval.specs.Evaluation.{Seen, Evaluated, ◌>>>◌, given, numbered, number_behind}
use Rattle.ped_eval.specs.Values.{value}
use Rattle.ped_eval.specs.Statements.{write_touch}

-- the bounds of a DO lie from -2^62 to 2^62 (this project)
abbrev pub is_bound : ℤ → Bool
is_bound m = int_le (neg_ℤ (pos (2 ^ 62))) m && int_le m (pos (2 ^ 62))

-- the bound, or the fault where it leaves that range (this project)
abbrev pub in_bounds : ℤ → Result ℤ ℕ
in_bounds m = if is_bound m then Ok m else Err out_of_range

-- the initial and the terminal value of a DO (ANSI X3.9-1978, section 11.10.3)
pub record Limits : Type 0 where
  pub first : ℤ
  pub last : ℤ

-- the initial value is evaluated and its range tested, and then the terminal value (ANSI X3.9-1978, section 11.10.3; this project)
abbrev pub limits : Names → Head → Store → Evaluated Limits
limits g h s = value g h.first s >>> λ u. given (in_bounds u) >>> λ m. value g h.last s >>> λ v. given (in_bounds v) >>> λ n. given (Ok (record { first = m; last = n }))

-- the increment, which is a constant; one without a value is refused before any run (ANSI X3.9-1978, section 11.10; this project)
abbrev pub increment : List (List ℕ × ℤ) → Head → ℤ
increment constants h = unwrap_or (constant_value constants h.step) (pos 1)

-- the iteration count, MAX((m2-m1+m3)/m3, 0) (ANSI X3.9-1978, section 11.10.3)
abbrev pub iteration_count : ℤ → ℤ → ℤ → ℕ
iteration_count m1 m2 m3 = natural (int_div (m2 -ℤ m1 +ℤ m3) m3)

-- a name among others in byte order, once (plain words)
abbrev pub with_name_by : Ordering → List ℕ → List ℕ → List (List ℕ) → List (List ℕ) → List (List ℕ)
with_name_by Less x y rest further = x ∷ y ∷ rest
with_name_by Equal x y rest further = y ∷ rest
with_name_by Greater x y rest further = y ∷ further

-- names in byte order with one more, where they haven't got it (plain words)
abbrev pub with_sorted : List ℕ → List (List ℕ) → List (List ℕ)
with_sorted x [] = x ∷ []
with_sorted x (y ∷ ys) = with_name_by (slice_cmp nat_cmp x y) x y ys (with_sorted x ys)

-- names in byte order, each once (plain words)
abbrev pub sorted_once : List (List ℕ) → List (List ℕ)
sorted_once [] = []
sorted_once (x ∷ xs) = with_sorted x (sorted_once xs)

-- a DO that has been entered: its number, its head, its initial value, its increment and its iteration count; the number after the references in its bounds; and, of a PARALLEL DO, the variables of the DO loops in it, each once, in byte order (ANSI X3.9-1978, section 11.10; this project)
pub record Entered : Type 0 where
  pub number : ℕ
  pub head : Head
  pub first : ℤ
  pub step : ℤ
  pub count : ℕ
  pub behind_bounds : ℕ
  pub inner : List (List ℕ)

-- the variables that are private to the iterations of a DO because DO loops in it have them: those of a PARALLEL DO alone (this project)
abbrev pub inner_variables : Bool → StmtTrees → List (List ℕ)
inner_variables true body = sorted_once (all_loop_variables body)
inner_variables false body = []

-- a DO with these limits, whose bounds have read this
abbrev pub entered_with : Setting → ℕ → Head → StmtTrees → List Seen → Limits → Entered
entered_with p n h body seen l = record {
  number = p.number n;
  head = h;
  first = l.first;
  step = increment p.constants h;
  count = iteration_count l.first l.last (increment p.constants h);
  behind_bounds = number_behind 1 seen;
  inner = inner_variables h.parallel body;
}

-- the value of the variable in iteration k, from 1: m1+(k-1)*m3 (ANSI X3.9-1978, section 11.10.7)
abbrev pub value_in : Entered → ℕ → ℤ
value_in e k = e.first +ℤ pos (k - 1) *ℤ e.step

-- the names of which each iteration has its own copies: the PRIVATE names, and of a PARALLEL DO its own variable and those of the DO loops in it (ParaScope; this project)
abbrev pub copied_names : Entered → List (List ℕ)
copied_names e = if e.head.parallel then e.head.variable ∷ (e.head.private ++ e.inner) else e.head.private

-- iteration k of a DO (this project)
abbrev pub frame : Entered → ℕ → Frame
frame e k = record {
  turn = record { statement = e.number; parallel = e.head.parallel; number = k; value = value_in e k };
  variable = e.head.variable;
  private = copied_names e;
}

-- the names become undefined, by references with numbers from this one on (ParaScope; this project)
abbrev pub undefined_by : Scope → ℕ → List (List ℕ) → List Touch
undefined_by scope n [] = []
undefined_by scope n (x ∷ xs) = write_touch (cell_of scope x) Undefined n ∷ undefined_by scope (suc n) xs

-- the names become undefined, by no reference (ANSI X3.9-1978, section 17.3; this project)
abbrev pub undefined_all : Scope → List (List ℕ) → List Touch
undefined_all scope xs = map (λ x. write_touch (cell_of scope x) Undefined 0) xs

-- what the variable holds after the DO: m1+count*m3, and after a PARALLEL DO nothing (ANSI X3.9-1978, section 11.10.7; this project)
abbrev pub left_in_variable : Entered → Content
left_in_variable e = if e.head.parallel then Undefined else Number (e.first +ℤ pos e.count *ℤ e.step)

-- the exit of a DO writes its variable; then its PRIVATE names become undefined, by the references of its header; then, of a PARALLEL DO, the variables of the DO loops in it (ANSI X3.9-1978, section 11.10.7; ParaScope; this project)
abbrev pub exit_touches : Entered → Scope → List Touch
exit_touches e scope =
    write_touch (cell_of scope e.head.variable) (left_in_variable e) 0
    ∷ (undefined_by scope e.behind_bounds e.head.private ++ undefined_all scope e.inner)

-- the touches of the exit, where no iteration is left (ANSI X3.9-1978, section 11.10.4)
abbrev pub exit_when_none : ℕ → Entered → Scope → List Touch
exit_when_none n e scope = if n == 0 then exit_touches e scope else []

-- the entry reads the bounds, and with a count of 0 it is the exit, too (ANSI X3.9-1978, section 11.10.3; this project)
abbrev pub entry_touches : List Seen → Entered → Scope → List Touch
entry_touches seen e scope = numbered 1 seen ++ exit_when_none e.count e scope
