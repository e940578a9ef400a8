-- The kinds of the code and their numbers, which document 01 gives.
use Rattle.std.specs.Prelude.{◌≡◌, ℕ, ◌<◌, ◌≤◌, Result, MatchResult}
use Rattle.refal_ast.specs.Kinds.{tok_entry, tok_extern, tok_identifier, tok_variable, tok_number, tok_char, tok_l_brace, tok_r_brace, tok_l_paren, tok_r_paren, tok_l_angle, tok_r_angle, tok_comma, tok_colon, tok_equals, tok_semicolon, tok_eof}
use Rattle.refal_ast.specs.Kinds.{node_declaration, node_name, node_function, node_sentence, node_condition, node_terms, node_ending_block, node_condition_block, node_identifier, node_number, node_char, node_variable, node_bracket, node_call}
use Rattle.refal_ast.specs.declared.kinds.UnknownKind.{UnknownKind}
use Rattle.refal_ast.specs.declared.kinds.TokenKind.{TokenKind}
use Rattle.refal_ast.specs.declared.kinds.TokenKind.TheVariants as token
use Rattle.refal_ast.specs.declared.kinds.NodeKind.{NodeKind}
use Rattle.refal_ast.specs.declared.kinds.NodeKind.TheVariants as node

abbrev pub token_code : TokenKind → ℕ
token_code token.Entry = tok_entry
token_code token.Extern = tok_extern
token_code token.Identifier = tok_identifier
token_code token.Variable = tok_variable
token_code token.Number = tok_number
token_code token.Char = tok_char
token_code token.LBrace = tok_l_brace
token_code token.RBrace = tok_r_brace
token_code token.LParen = tok_l_paren
token_code token.RParen = tok_r_paren
token_code token.LAngle = tok_l_angle
token_code token.RAngle = tok_r_angle
token_code token.Comma = tok_comma
token_code token.Colon = tok_colon
token_code token.Equals = tok_equals
token_code token.Semicolon = tok_semicolon
token_code token.Eof = tok_eof

abbrev pub node_code : NodeKind → ℕ
node_code node.Declaration = node_declaration
node_code node.Name = node_name
node_code node.Function = node_function
node_code node.Sentence = node_sentence
node_code node.Condition = node_condition
node_code node.Terms = node_terms
node_code node.EndingBlock = node_ending_block
node_code node.ConditionBlock = node_condition_block
node_code node.Identifier = node_identifier
node_code node.Number = node_number
node_code node.Char = node_char
node_code node.Variable = node_variable
node_code node.Bracket = node_bracket
node_code node.Call = node_call

-- the result is the kind with this number, or an error with a word that is the number of no kind
abbrev pub DecodesToken : ℕ → Result TokenKind UnknownKind → Type 0
DecodesToken word r = MatchResult r (λ kind. token_code kind ≡ word) (λ e. (e.0 ≡ word) × (1 ≤ word → tok_eof < word))

abbrev pub DecodesNode : ℕ → Result NodeKind UnknownKind → Type 0
DecodesNode word r = MatchResult r (λ kind. node_code kind ≡ word) (λ e. (e.0 ≡ word) × (1 ≤ word → node_call < word))
