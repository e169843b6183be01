-- What the code looks at in operands, as the definitions see it.
use Rattle.std.specs.Prelude.{◌≡◌, Option, Some, None}
use Rattle.picture_rule.specs.Picture.{PictureValue}
use Rattle.cob_value.specs.Moves.{has_text}
use Rattle.value_rules.specs.declared.sides.Standing.{Standing}
use Rattle.value_rules.specs.declared.sides.Side.{Side}
use Rattle.value_rules.specs.declared.sides.Side.TheVariants.{Pictured, Figured, Unknown}
use Rattle.value_rules.specs.Kinds as k

-- the category of a picture, and whether items of it stand as texts
pub record IsStanding (p : PictureValue) (standing : Standing) : Type 0 where
  pub kind : standing.kind ≡ p.kind
  pub text : standing.text ≡ has_text p

abbrev pub IsStandingOf : Option PictureValue → Option Standing → Type 0
IsStandingOf None None = Unit {0}
IsStandingOf None (Some standing) = ⊥
IsStandingOf (Some p) None = ⊥
IsStandingOf (Some p) (Some standing) = IsStanding p standing

abbrev pub IsSide : k.Side → Side → Type 0
IsSide (k.pictured p) (Pictured standing) = IsStanding p standing
IsSide (k.figured figure) (Figured other) = figure ≡ other
IsSide k.unknown Unknown = Unit {0}
IsSide _ _ = ⊥
