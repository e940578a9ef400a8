-- Writing by a walk over rows: what is known of the rows that it writes, and a turn of the walk at row i.
use Rattle.std.specs.Prelude.{Result, Ok, Err, Option, Some, None, ℕ, ◌+◌, ◌*◌, ◌-◌, ◌≤◌, ◌<◌, Bool, true, false, ◌&&◌, ◌||◌, List, [], ◌++◌, ◌≡◌, refl, eqb}
use Rattle.std.proofs.Common.{true≢false, sym, ap, subst, ◌∙◌, arith, eqb-true}
use Rattle.std.specs.Result.{IsOk}
use Rattle.std.specs.Option.{IsSome}
use Rattle.refal_rows.specs.Tests.{and_left, and_right}
use Rattle.refal_ast.specs.Kinds.{node_variable}
use Rattle.refal_ast.specs.KindCodes.{node_code}
use Rattle.refal_ast.specs.Rows.{node_told, ReadsNode}
use Rattle.refal_ast.specs.declared.nodes.Node.{Node as TheNode}
use Rattle.refal_ast.specs.declared.kinds.UnknownKind.{UnknownKind}
use Rattle.refal_ast.specs.Limits.{most_rows}
use Rattle.refal_ast.specs.Nodes.{Node, node_at}
use Rattle.refal_ast.specs.Flatten.{Flat}
use Rattle.refal_tree.specs.Forest.{Row}
use Rattle.refal_tree.specs.States.{state_inside, state_next, below, may_stand, room}
use Rattle.refal_tree.specs.StateCodes.{state_code, Follows, no_kind}
use Rattle.refal_tree.specs.declared.states.State.{State}
use Rattle.refal_tree.specs.Rules.{variable_letter, fields_ok, row_ok}
use Rattle.refal_tree.specs.Ranges.{row_at, kind_at, detail_at, next_at, ok_at}
use Rattle.refal_tree.specs.FlattenRows.{open_tokens, close_tokens}
use Rattle.refal_tree.specs.Walk.{flat_at, Step, step, flat_step, flat_end_lem}
use Rattle.refal_spelling.specs.Spell.{text, text_at}
use Rattle.refal_writer.specs.Token.{text_of, text_of_append}
use Rattle.refal_writer.specs.Words.{open_words, open_text, close_words, close_text}

-- rows i to j keep the rules, from the state st on, under some parent
pub record Walks (w : List ℕ) (i j st : ℕ) : Type 0 where
  pub left : ℕ
  pub parent : ℕ
  pub ok : ok_at w i j st left parent ≡ true

-- ---- a row that keeps the rules
letter_small : (d : ℕ) → variable_letter d ≡ true → d < 256
letter_small d h = go (eqb d 115) (eqb d 116) (eqb d 101) refl refl refl h
  where
    go : (x y z : Bool) → eqb d 115 ≡ x → eqb d 116 ≡ y → eqb d 101 ≡ z → (x || y) || z ≡ true → d < 256
    go true y z e f g h = let i = eqb-true d 115 e in omega arith
    go false true z e f g h = let i = eqb-true d 116 f in omega arith
    go false false true e f g h = let i = eqb-true d 101 g in omega arith
    go false false false e f g h = absurd (true≢false (sym h))

stands : (st left : ℕ) (r : Row) → row_ok st left r ≡ true → may_stand st r.kind ≡ true
stands st left r h =
    let f : Bool = may_stand st r.kind && room r.kind left in
    let g : Bool = fields_ok r.kind r.detail r.start r.len r.from r.to in
    and_left (may_stand st r.kind) (room r.kind left) (and_left f g h)

-- a variable's letter is a byte
lettered : (st left : ℕ) (r : Row) → row_ok st left r ≡ true → r.kind ≡ node_variable → r.detail < 256
lettered st left r h e =
    let f : Bool = may_stand st r.kind && room r.kind left in
    let g : Bool = fields_ok r.kind r.detail r.start r.len r.from r.to in
    letter_small r.detail (and_left _ true (ap (λ (k : ℕ). fields_ok k r.detail r.start r.len r.from r.to) (sym e) ∙ and_right f g h))

-- ---- what the steps of the code answer at such a row
reads : (w : List ℕ) (i st : ℕ) (r : Result TheNode UnknownKind) → may_stand st (kind_at w i) ≡ true → ReadsNode w i r → IsOk r
reads w i st (Ok n) h e = refl
reads w i st (Err u) h e = absurd (true≢false (sym h ∙ no_kind st (kind_at w i) e.1))

goes_on : (st k d : ℕ) (r : Option State) → may_stand st k ≡ true → Follows st k d r → IsSome r
goes_on st k d (Some s) h e = refl
goes_on st k d None h e = absurd (true≢false (sym h ∙ e))

pub next_state : (st k d : ℕ) (r : Option State) (s : State) → Follows st k d r → r ≡ Some s → state_code s ≡ state_next st k d
next_state st k d r s h e = (subst (λ (x : Option State). Follows st k d x) e h).1

pub row_reads : (w : List ℕ) (i j st : ℕ) (r : Result TheNode UnknownKind) → i < j → Walks w i j st → ReadsNode w i r → IsOk r
row_reads w i j st r more W e = let here = step w i j st W.left W.parent more W.ok in reads w i st r (stands st W.left (row_at w i) here.here) e

-- ---- a turn of the walk at row i, which is read as n, among the rows to j
pub record Turn (w : List ℕ) (i j st : ℕ) (n : TheNode) : Type 0 where
  pub low : i < n.next
  pub high : n.next ≤ j
  pub letter : node_code n.kind ≡ node_variable → n.detail < 256
  pub goes : (r : Option State) → Follows st (node_code n.kind) n.detail r → IsSome r
  -- s is the state of the children, and u the state of what follows
  pub kids : (s : ℕ) → s ≡ state_inside (node_code n.kind) → Walks w (i + 1) n.next s
  pub rest : (u : ℕ) → u ≡ state_next st (node_code n.kind) n.detail → Walks w n.next j u
  -- the text of a turn, part by part
  pub parts : (src : List ℕ) (s u : ℕ) → s ≡ state_inside (node_code n.kind) → u ≡ state_next st (node_code n.kind) n.detail
      → text_of src (flat_at w i j st)
      ≡ text (open_words st (node_code n.kind) n.detail (text_at src n.start n.len)) ++ (text_of src (flat_at w (i + 1) n.next s) ++ (text (close_words st (node_code n.kind) n.detail) ++ text_of src (flat_at w n.next j u)))

pub turn : (w : List ℕ) (i j st : ℕ) (r : Result TheNode UnknownKind) (n : TheNode) → ReadsNode w i r → r ≡ Ok n → i < j → Walks w i j st → Turn w i j st n
turn w i j st r n reads is more W =
    let here : Step w i j st W.left W.parent = step w i j st W.left W.parent more W.ok in
    let told : node_told n ≡ node_at w i = subst (λ (x : Result TheNode UnknownKind). ReadsNode w i x) is reads in
    let kind : node_code n.kind ≡ kind_at w i = ap (λ (x : Node). x.kind) told in
    let detail : n.detail ≡ detail_at w i = ap (λ (x : Node). x.detail) told in
    let next : n.next ≡ next_at w i = ap (λ (x : Node). x.next) told in
    record {
      low = let l = here.lo in omega arith;
      high = let l = here.hi in omega arith;
      letter = λ e. subst (λ (x : ℕ). x < 256) (sym detail) (lettered st W.left (row_at w i) here.here (sym kind ∙ e));
      goes = λ o. goes_on st (node_code n.kind) n.detail o (ap (may_stand st) kind ∙ stands st W.left (row_at w i) here.here);
      kids = λ s first. record { left = below st (kind_at w i) W.left; parent = i; ok = rw (first, kind, next) here.kids };
      rest = λ u then. record { left = W.left; parent = W.parent; ok = rw (then, kind, detail, next) here.rest };
      parts = λ src s u first then.
          let K : ℕ = kind_at w i in
          let z : ℕ = next_at w i in
          let A : List Flat = open_tokens st (row_at w i) in
          let B : List Flat = flat_at w (i + 1) z (state_inside K) in
          let C : List Flat = close_tokens st K (detail_at w i) in
          let D : List Flat = flat_at w z j (state_next st K (detail_at w i)) in
          ap (text_of src) (flat_step w i j st W.left W.parent here)
          ∙ text_of_append src A (B ++ (C ++ D))
          ∙ ap (λ (l : List ℕ). text_of src A ++ l) (text_of_append src B (C ++ D) ∙ ap (λ (l : List ℕ). text_of src B ++ l) (text_of_append src C D))
          ∙ ap (λ (l : List ℕ). text_of src A ++ (text_of src B ++ (l ++ text_of src D))) (sym (close_text src st K (detail_at w i)))
          ∙ ap (λ (l : List ℕ). l ++ (text_of src B ++ (text (close_words st K (detail_at w i)) ++ text_of src D))) (sym (open_text src st (row_at w i) (node_code n.kind) n.detail (text_at src n.start n.len) kind detail (ap (λ (x : Node). text_at src x.start x.len) told)))
          ∙ sym (rw (first, then, kind, detail, next) refl);
    }

-- the text of no rows
pub end_text : (w src : List ℕ) (i j st : ℕ) → i ≡ j → text_of src (flat_at w i j st) ≡ []
unfolding text
end_text w src i j st e = ap (text_of src) (flat_end_lem w i j st e)

-- ---- how long a text of so many rows can be: no row is written with more bytes than `widest`
abbrev pub widest : ℕ
widest = 17179869184

module _ (from i x to at a b : ℕ) (done : at + from * widest ≤ i * widest) (own : a ≤ 4294967312) (kids : b + (i + 1) * widest ≤ x * widest) (end : x ≤ to) (few : to ≤ most_rows) where
  pub filled_small : at + a + b ≤ 1152921504606846976
  filled_small = omega arith

  pub turn_small : (c : ℕ) → c ≤ 16 → at + a + b + c + from * widest ≤ x * widest
  turn_small c h = omega arith

pub rows_fall : (from i x to : ℕ) → from ≤ i → i < x → x ≤ to → x - (i + 1) < to - from
rows_fall from i x to a b c = omega arith

pub left_falls : (i x to : ℕ) → i < x → x ≤ to → to - x < to - i
left_falls i x to a b = omega arith
