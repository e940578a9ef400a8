-- The marks of the code and their kinds as tokens.
use Rattle.std.specs.Prelude.{ℕ}
use Rattle.refal_ast.specs.Kinds.{tok_entry, tok_extern, tok_l_brace, tok_r_brace, tok_l_paren, tok_r_paren, tok_l_angle, tok_r_angle, tok_comma, tok_colon, tok_equals, tok_semicolon}
use Rattle.refal_writer.specs.declared.token.Mark.{Mark}
use Rattle.refal_writer.specs.declared.token.Mark.TheVariants as mark

abbrev pub mark_code : Mark → ℕ
mark_code mark.Entry = tok_entry
mark_code mark.Extern = tok_extern
mark_code mark.LBrace = tok_l_brace
mark_code mark.RBrace = tok_r_brace
mark_code mark.LParen = tok_l_paren
mark_code mark.RParen = tok_r_paren
mark_code mark.LAngle = tok_l_angle
mark_code mark.RAngle = tok_r_angle
mark_code mark.Comma = tok_comma
mark_code mark.Colon = tok_colon
mark_code mark.Equals = tok_equals
mark_code mark.Semicolon = tok_semicolon
