-- Bodies that are refused whole, counted by why.
use Rattle.std.specs.Prelude.{ℕ, ◌+◌, ◌-◌, ◌^◌, min}
use Rattle.rr_web.specs.declared.bodies.RefusedBodies.{RefusedBodies}
use Rattle.rr_web.specs.declared.reply.Status.{Status}
use Rattle.rr_web.specs.declared.reply.Status.TheVariants as status

abbrev pub none : RefusedBodies
none = record { coding = 0; precision = 0; origin = 0 }

abbrev pub one_more : ℕ → ℕ
one_more count = min (count + 1) (2 ^ 64 - 1)

-- with one more, whose reply has this status: 415, 400 and 503 are those of a refused body
abbrev pub counted : Status → RefusedBodies → RefusedBodies
counted status.UnknownCoding b = record { coding = one_more b.coding; precision = b.precision; origin = b.origin }
counted status.BadRequest b = record { coding = b.coding; precision = one_more b.precision; origin = b.origin }
counted status.Busy b = record { coding = b.coding; precision = b.precision; origin = one_more b.origin }
counted other b = b
