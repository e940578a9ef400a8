-- `refal_bound::patterns::Tree::scan_row` meets its contract: what each kind of row does to what is in force.
use Rattle.std.proofs.Common.{◌≡◌, ◌<◌, ◌≤◌, true, false, not, eqb, arith, ap, sym, subst, ◌∙◌, ℕ, Bool, List, ◌+◌, ◌%◌, refl}
use Rattle.refal_ast.specs.Kinds.{node_variable}
use Rattle.refal_ast.specs.KindCodes.{node_code}
use Rattle.refal_ast.specs.Nodes.{Node, node_at}
use Rattle.refal_tree.specs.Ranges.{kind_at, detail_at}
use Rattle.refal_index.specs.Hash.{bucket_of}
use Rattle.refal_index.specs.Chain.{pushed}
use Rattle.refal_bound.specs.Bound.{some_in, index_at, bound_by}
use Rattle.refal_bound.specs.BoundLaws.{unknown, unbound_unknown}
use Rattle.refal_bound.specs.Scan.{Keeps, bucket, keeps_skip, keeps_push, no_variable, in_pattern, used_here, binding_here, no_binding_here, other_binds_nothing}
use Rattle.refal_bound.proofs.patterns.Tree.scan_row.Goals as goal

not_not : (b : Bool) → b ≡ not (not b)
not_not true = refl
not_not false = refl

pub returns-in_default-clause-bound : goal.returns-in_default-clause-bound
returns-in_default-clause-bound c = sym (ap not (unbound_unknown c.args.self.tree.now c.args.self.source.now c.args.u c.in_default.ensures.1))

pub returns-in_default-clause-kept : goal.returns-in_default-clause-kept
returns-in_default-clause-kept c =
    let w = c.args.self.tree.now in
    let i = c.args.bindings.now in
    keeps_skip w c.args.self.source.now i.words.now i.rows i.buckets c.args.u (other_binds_nothing w c.args.self.source.now c.args.u (unknown w c.args.u c.args.u node_variable c.in_default.ensures.1 (omega arith) (omega arith))) c.requires.keeps

kind_here : (w : List ℕ) (u : ℕ) (x : Node) (b : Bool) → x ≡ node_at w u → eqb x.kind node_variable ≡ b → eqb (kind_at w u) node_variable ≡ b
kind_here w u x b e h = sym (ap (λ (y : Node). eqb y.kind node_variable) e) ∙ h

pub returns-then-not-is-clause-bound : goal.returns-then-not-is-clause-bound
returns-then-not-is-clause-bound c =
    let w = c.args.self.tree.now in
    sym (ap not (no_variable w c.args.self.source.now c.args.u (kind_here w c.args.u _ false c.in-Ok.ensures (let e : eqb (node_code c.in-Ok.node.kind) node_variable ≡ false = cc in e))))

pub returns-then-not-is-clause-kept : goal.returns-then-not-is-clause-kept
returns-then-not-is-clause-kept c =
    let w = c.args.self.tree.now in
    let i = c.args.bindings.now in
    keeps_skip w c.args.self.source.now i.words.now i.rows i.buckets c.args.u
    (other_binds_nothing w c.args.self.source.now c.args.u (kind_here w c.args.u _ false c.in-Ok.ensures (let e : eqb (node_code c.in-Ok.node.kind) node_variable ≡ false = cc in e))) c.requires.keeps

pub returns-then-u-far-clause-bound : goal.returns-then-u-far-clause-bound
returns-then-u-far-clause-bound c =
    sym (ap not (in_pattern c.args.self.tree.now c.args.self.source.now c.args.u (subst (λ (n : ℕ). c.args.u < n) c.requires.reached c.if-u-far.true)))

pub returns-then-u-far-clause-kept : goal.returns-then-u-far-clause-kept
returns-then-u-far-clause-kept c =
    let w = c.args.self.tree.now in
    let s = c.args.self.source.now in
    let u = c.args.u in
    let b = c.args.bindings.now.buckets in
    let i = c.trim.new.bindings in
    let j = c.push.new.self in
    let T = c.trim.ensures.shape in
    let r = binding_here w s u (kind_here w u _ true c.in-Ok.ensures (let e : eqb (node_code c.in-Ok.node.kind) node_variable ≡ true = cc in e)) (subst (λ (n : ℕ). u < n) c.requires.reached c.if-u-far.true) in
    let K : Keeps w s (pushed i.words.now i.rows (bucket w s i.buckets u) u) i.rows i.buckets (u + 1) =
    keeps_push w s i.words.now i.rows i.buckets u r.0 (subst (λ (n : ℕ). u < n) (sym (T.0 ∙ c.requires.rows.1)) c.requires.rows.0) i.sized.1 i.sized.3 r.1 c.trim.ensures.kept in
    let h : c.bucket_from-h.result ≡ bucket w s i.buckets u =
    c.bucket_from-h.ensures.0
    ∙ ap (λ (name : List ℕ). (bucket_of b name + c.in-Ok.node.detail) % b) c.index-index.ensures
    ∙ ap (λ (d : ℕ). (bucket_of b (index_at w s u) + d) % b) (ap (λ (y : Node). y.detail) c.in-Ok.ensures)
    ∙ ap (λ (n : ℕ). (bucket_of n (index_at w s u) + detail_at w u) % n) (sym T.1) in
    let e : j.words.now ≡ pushed i.words.now i.rows (bucket w s i.buckets u) u = c.push.ensures.put ∙ ap (λ (k : ℕ). pushed i.words.now i.rows k u) h in
    rw (e, c.push.ensures.shape.0, c.push.ensures.shape.1) K

pub returns-clause-bound : goal.returns-clause-bound
returns-clause-bound c =
    let w = c.args.self.tree.now in
    let s = c.args.self.source.now in
    let u = c.args.u in
    c.is_bound.ensures
    ∙ not_not (some_in 0 u (bound_by w s u))
    ∙ sym (ap not (used_here w s u (kind_here w u _ true c.in-Ok.ensures (let e : eqb (node_code c.in-Ok.node.kind) node_variable ≡ true = cc in e)) (subst (λ (n : ℕ). n ≤ u) c.requires.reached (let z : c.args.far ≤ u = omega arith in z))))

pub returns-clause-kept : goal.returns-clause-kept
returns-clause-kept c =
    let w = c.args.self.tree.now in
    let s = c.args.self.source.now in
    let u = c.args.u in
    let i = c.trim.new.bindings in
    keeps_skip w s i.words.now i.rows i.buckets u (no_binding_here w s u (subst (λ (n : ℕ). n ≤ u) c.requires.reached (let z : c.args.far ≤ u = omega arith in z))) c.trim.ensures.kept
