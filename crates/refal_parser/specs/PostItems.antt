-- Contracts of the functions that parse items. They begin at the place p: at the word `at` of the tokens w, with row n; an answer gives the word j and the row m after.
use Rattle.std.specs.Prelude.{◌≡◌, ℕ, ◌+◌, ◌≤◌, ◌<◌, Bool, List, length, get_or, Result}
use Rattle.refal_ast.specs.Kinds.{node_function}
use Rattle.refal_ast.specs.Nodes.{no_parent, node}
use Rattle.refal_ast.specs.Tree.{Body, Names, n_one, n_more, Item, Program, p0, p_more, size_b, size_n, size_item, size_p}
use Rattle.refal_parser.specs.Machine.{Heading, function_of, outside, wants_name, wants_more, named, headed, tree, refuse}
use Rattle.refal_parser.specs.Ready.{Few}
use Rattle.refal_parser.specs.Writers.{put_node, name_row, w_item, w_n, w_b, w_p}
use Rattle.refal_parser.specs.Post.{Cases, runs, Same, Refuses}
use Rattle.refal_parser.specs.Got.{got_told}
use Rattle.refal_parser.specs.declared.place.Place.{Place}
use Rattle.refal_parser.specs.declared.answers.SyntaxError.{SyntaxError}

-- ---- a declaration's name
pub record NameAt (w B B' : List ℕ) (at n q j m : ℕ) : Type 0 where
  pub next : j ≡ at + 6
  pub count : m ≡ n + 1
  pub rows : B' ≡ put_node B n (name_row (get_or w (at + 2) 0) (get_or w (at + 3) 0) (n + 1) q)
  pub first : (a : ℕ) → Same w at (wants_name a) j (named a (n_one (get_or w (at + 2) 0) (get_or w (at + 3) 0)))
  pub more : (a : ℕ) (ns : Names) → Same w at (wants_more a ns) j (named a (n_more ns (get_or w (at + 2) 0) (get_or w (at + 3) 0)))

pub record NameNo (w : List ℕ) (at a b c d e : ℕ) : Type 0 where
  pub first : (x : ℕ) → Refuses w at (wants_name x) a b c d e
  pub more : (x : ℕ) (ns : Names) → Refuses w at (wants_more x ns) a b c d e

abbrev pub NamePost : Place → List ℕ → List ℕ → ℕ → Result Place SyntaxError → Type 0
NamePost p B B' q r = Cases p.tokens.now (got_told r) (NameAt p.tokens.now B B' p.at p.row q) (NameNo p.tokens.now p.at)

-- the loop over the names of the declaration that begins at `at`, whose row is row n; B₁ is the rows as the loop begins, after the first name
pub record NamesInv (w B₁ B' : List ℕ) (at n i k : ℕ) : Type 0 where
  pub ns : Names
  pub on : at < i
  pub few : Few k i 0
  pub same : length B' ≡ length B₁
  pub rows : (B : List ℕ) → B₁ ≡ put_node B (n + 1) (name_row (get_or w (at + 6 + 2) 0) (get_or w (at + 6 + 3) 0) (n + 1 + 1) n) → B' ≡ w_n ns (n + 1) n B
  pub count : k ≡ n + 1 + size_n ns
  pub means : Same w at outside i (named (get_or w (at + 4) 0) ns)

-- ---- a function whose span begins at `from` and whose name is at `name`, from the name on
abbrev pub heading : List ℕ → ℕ → ℕ → Bool → Heading
heading w from name x = record { from = from; entry = x; start = get_or w (name + 2) 0; len = get_or w (name + 3) 0 }

pub record FunctionAt (w B B' : List ℕ) (from name n entry j m : ℕ) : Type 0 where
  pub v : Body
  pub e : ℕ
  pub on : name < j
  pub few : Few m j 0
  pub rows : B' ≡ put_node (w_b v (n + 1) n B) n (node node_function entry (get_or w (name + 2) 0) (get_or w (name + 3) 0) from e m no_parent)
  pub count : m ≡ n + 1 + size_b v
  pub means : (x : Bool) (p : Program) →
      runs w (name + 6) p (headed (heading w from name x)) ≡ runs w j (p_more p (function_of (heading w from name x) v e)) outside

abbrev pub FunctionNo : List ℕ → ℕ → ℕ → ℕ → ℕ → ℕ → ℕ → ℕ → Type 0
FunctionNo w from name a b c d e = (x : Bool) → Refuses w (name + 6) (headed (heading w from name x)) a b c d e

abbrev pub FunctionPost : Place → List ℕ → List ℕ → ℕ → ℕ → Result Place SyntaxError → Type 0
FunctionPost p B B' from entry r =
    Cases p.tokens.now (got_told r) (FunctionAt p.tokens.now B B' from p.at p.row entry) (FunctionNo p.tokens.now from p.at)

-- ---- an item
pub record ItemAt (w B B' : List ℕ) (at n j m : ℕ) : Type 0 where
  pub x : Item
  pub on : at < j
  pub few : Few m j 0
  pub rows : B' ≡ w_item x n B
  pub count : m ≡ n + size_item x
  pub means : (p : Program) → runs w at p outside ≡ runs w j (p_more p x) outside

abbrev pub ItemPost : Place → List ℕ → List ℕ → Result Place SyntaxError → Type 0
ItemPost p B B' r = Cases p.tokens.now (got_told r) (ItemAt p.tokens.now B B' p.at p.row) (Refuses p.tokens.now p.at outside)

-- ---- the program, before it is known to fit
pub record ProgramAt (w B B' : List ℕ) (j m : ℕ) : Type 0 where
  pub t : Program
  pub few : m ≤ 100663302
  pub rows : B' ≡ w_p t 0 B
  pub count : m ≡ size_p t
  pub means : runs w 0 p0 outside ≡ tree t

abbrev pub ProgramPost : List ℕ → List ℕ → List ℕ → Result Place SyntaxError → Type 0
ProgramPost w B B' r = Cases w (got_told r) (ProgramAt w B B') (λ a b c d e. runs w 0 p0 outside ≡ refuse a b c d e)

-- its loop
pub record ProgramInv (w B B' : List ℕ) (i m : ℕ) : Type 0 where
  pub t : Program
  pub few : Few m i 0
  pub same : length B' ≡ length B
  pub rows : B' ≡ w_p t 0 B
  pub count : m ≡ size_p t
  pub means : runs w 0 p0 outside ≡ runs w i t outside
