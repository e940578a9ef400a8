-- The code's tokens and nodes, in the numbers of their rows.
use Rattle.std.specs.Prelude.{◌≡◌, ℕ, ◌≤◌, ◌<◌, List, Result, MatchResult}
use Rattle.refal_ast.specs.Kinds.{node_call}
use Rattle.refal_ast.specs.KindCodes.{token_code, node_code}
use Rattle.refal_ast.specs.Tokens.{Token, token}
use Rattle.refal_ast.specs.Nodes.{Node, node_at, word_at, col_kind}
use Rattle.refal_ast.specs.declared.kinds.UnknownKind.{UnknownKind}
use Rattle.refal_ast.specs.declared.tokens.Token.{Token as TheToken}
use Rattle.refal_ast.specs.declared.nodes.Node.{Node as TheNode}

abbrev pub token_told : TheToken → Token
token_told t = token (token_code t.kind) t.detail t.start t.len t.from t.to

abbrev pub node_told : TheNode → Node
node_told x = record { kind = node_code x.kind; detail = x.detail; start = x.start; len = x.len; from = x.from; to = x.to; next = x.next; parent = x.parent }

-- the result is row i of the words, or an error where its first word is the number of no kind
abbrev pub ReadsNode : List ℕ → ℕ → Result TheNode UnknownKind → Type 0
ReadsNode w i r =
    MatchResult r (λ x. node_told x ≡ node_at w i) (λ e. (e.0 ≡ word_at w i col_kind) × (1 ≤ word_at w i col_kind → node_call < word_at w i col_kind))
