-- Numbers and form of a frame in either order.
use Rattle.std.proofs.Common.{◌≡◌, ◌&&◌, Bool, true, false, refl}

-- where no number is far, the form is not asked
pub none_is_far : (short far : Bool) → far ≡ false → false ≡ (short && far)
none_is_far true false is = refl
none_is_far false false is = refl
none_is_far short true is = cc is

-- where one is far, the form decides
pub form_decides : (short far : Bool) → far ≡ true → short ≡ (short && far)
form_decides true true is = refl
form_decides false true is = refl
form_decides short false is = cc is
