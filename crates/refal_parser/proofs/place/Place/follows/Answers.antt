-- `refal_parser::place::Place::follows` meets its contract: one of two kinds, Eof, or another kind, after terms and after a block.
use Rattle.std.proofs.Common.{◌≡◌, refl, sym, ◌∙◌, true, true≢false, get_or}
use Rattle.refal_ast.specs.KindCodes.{token_code}
use Rattle.refal_ast.specs.declared.kinds.TokenKind.TheVariants as kind
use Rattle.refal_parser.specs.Post.{Joint}
use Rattle.refal_parser.proofs.TokenLaws.{is_kind, not_kind, same_kind, other_kind, alike_kind, unlike_kind}
use Rattle.refal_parser.proofs.Steps.{is_at, is_no, two_eof, two_none, two_other}
use Rattle.refal_parser.proofs.place.Place.follows.Goals.{then-eq-via-then-eq, then-eq-via-else-eq+then-eq-2, else-terms-via-then-terms+else-ne, else-terms-via-else-terms}
use Rattle.refal_parser.proofs.place.Place.follows.Goals as goal

pub returns-then-eq : goal.returns-then-eq
returns-then-eq c = let a = c.args in
    let T = c.kind-kind.ensures in
    let j : Joint a.self.tokens.now a.self.at (token_code a.also) (token_code a.want) = elim c.then-eq.branch [
      | then-eq-via-then-eq w ↦ λ n. absurd (n (is_kind T (same_kind w.if-eq.ensures)))
      | then-eq-via-else-eq+then-eq-2 w ↦ λ n. is_kind T (same_kind w.if-eq-2.ensures)
    ] in
    is_at refl refl j

pub returns-then-ne : goal.returns-then-ne
returns-then-ne c = let a = c.args in
    let T = c.kind-kind.ensures in
    is_no c.taken.ensures (record {
      of_terms = λ h u v. two_none a.self.tokens.now a.self.at (token_code a.also) (token_code a.want) u v (not_kind T (other_kind c.if-eq.ensures)) (not_kind T (other_kind c.if-eq-2.ensures)) (not_kind {l = kind.Eof} T (unlike_kind c.if-ne.ensures));
      of_block = λ h. absurd (true≢false (sym c.if-terms.true ∙ h));
    })

pub returns : goal.returns
returns c = let a = c.args in
    let w₀ = a.self.tokens.now in
    let at₀ = a.self.at in
    let also₀ = token_code a.also in
    let want₀ = token_code a.want in
    let T = c.kind-kind.ensures in
    let n₁ = not_kind T (other_kind c.if-eq.ensures) in
    let n₂ = not_kind T (other_kind c.if-eq-2.ensures) in
    let eof : a.terms ≡ true → get_or a.self.tokens.now a.self.at 0 ≡ 17 = elim c.else-terms.branch [
      | else-terms-via-then-terms+else-ne w ↦ λ h. is_kind {l = kind.Eof} T (alike_kind w.if-ne.ensures)
      | else-terms-via-else-terms w ↦ λ h. absurd (true≢false (sym h ∙ w.if-terms.false))
    ] in
    is_no c.present.ensures (record { of_terms = λ h u v. two_eof w₀ at₀ also₀ want₀ u v n₁ n₂ (eof h); of_block = λ h u v. two_other w₀ at₀ also₀ want₀ u v n₁ n₂ })
