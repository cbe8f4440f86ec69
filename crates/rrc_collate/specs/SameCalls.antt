-- SPDX-License-Identifier: MIT
-- Which calls are the same, octet for octet.
use Rattle.std.specs.Prelude.{Bool, true, false, ◌&&◌, ◌==◌, nat_eq}
use Rattle.std.specs.Cmp.Lexicographic.{pointwise}
use Rattle.rrc_name.specs.Key.{key_eq}
use Rattle.rrc_history.specs.declared.ask.Purpose.{Purpose}
use Rattle.rrc_history.specs.declared.ask.Purpose.TheVariants.{Any, Answer}
use Rattle.rrc_history.specs.declared.ask.Mode.{Mode}
use Rattle.rrc_history.specs.declared.ask.Mode.TheVariants.{NoStale, Failed, Now}
use Rattle.rrc_history.specs.Asked.{AskOf}
use Rattle.rrc_history.specs.Fits.{OfferOf}
use Rattle.rrc_history.specs.Equality.{body_eq}
use Rattle.rrc_collate.specs.declared.script.Call.{Call}
use Rattle.rrc_collate.specs.declared.script.Call.TheVariants.{Offer, Ask, Sweep}

abbrev pub purpose_eq : Purpose → Purpose → Bool
purpose_eq Any Any = true
purpose_eq Answer Answer = true
purpose_eq purpose other = false

abbrev pub mode_eq : Mode → Mode → Bool
mode_eq NoStale NoStale = true
mode_eq Failed Failed = true
mode_eq Now Now = true
mode_eq mode other = false

abbrev pub offer_eq : OfferOf → OfferOf → Bool
offer_eq offer other = offer.moment == other.moment && (key_eq offer.key other.key && body_eq offer.body other.body)

abbrev pub ask_eq : AskOf → AskOf → Bool
ask_eq ask other =
    ask.moment == other.moment
    && (ask.class == other.class
    && (ask.rtype == other.rtype && (purpose_eq ask.purpose other.purpose && (mode_eq ask.mode other.mode && pointwise nat_eq ask.name other.name))))

abbrev pub call_eq : Call → Call → Bool
call_eq (Offer offer) (Offer other) = offer_eq offer other
call_eq (Ask ask) (Ask other) = ask_eq ask other
call_eq (Sweep moment) (Sweep other) = moment == other
call_eq call other = false
