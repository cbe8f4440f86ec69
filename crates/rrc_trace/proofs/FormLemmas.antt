-- SPDX-License-Identifier: MIT
-- Octets say a line of each form, as they are read, exactly where their fields are that line by the grammar.
use Rattle.std.proofs.Common.{◌≡◌, ℕ, List, [], ◌∷◌, Option, Some, codes, refl, ap, subst, ◌∙◌}
use Rattle.rrc_name.specs.Text.{Spells}
use Rattle.rrc_history.specs.declared.ask.Mode.{Mode}
use Rattle.rrc_history.specs.declared.ask.Purpose.{Purpose}
use Rattle.rrc_history.specs.declared.body.Trust.{Trust}
use Rattle.rrc_trace.specs.declared.line.Line.{Line}
use Rattle.rrc_trace.specs.declared.line.Line.TheVariants as lines
use Rattle.rrc_trace.specs.declared.read.form.Form.{Form}
use Rattle.rrc_trace.specs.declared.read.form.Form.TheVariants as forms
use Rattle.rrc_text.specs.Gives.{◌>>=◌}
use Rattle.rrc_text.specs.Fields.{said_at}
use Rattle.rrc_text.specs.Names.{name_of}
use Rattle.rrc_trace.specs.Numbers.{moment_of, rtype_of}
use Rattle.rrc_text.specs.Numbers.{ttl_of, trust_of}
use Rattle.rrc_trace.specs.Forms.{form_of}
use Rattle.rrc_text.specs.Words.{purpose_of, mode_of}
use Rattle.rrc_trace.specs.Items.{items_of}
use Rattle.rrc_trace.specs.Messages.{message_of, fetched_of}
use Rattle.rrc_text.specs.declared.kind.Kind.{Kind}
use Rattle.rrc_trace.specs.Lines.{ended, question_at, kept_of, put_of, manner_of, ask_of, fail_of, response_of, sent_of, fetch_of, sweep_of, said_as, line_of}
use Rattle.rrc_trace.specs.Grammar.{IsMoment, IsRtype, IsTrust, IsTtl, AreItems, SpellsFetched, FieldsOf, put, ask, response, fail, fetch, sweep, checkpoint, HasFields}
use Rattle.rrc_text.specs.Grammar.{purpose_word, mode_word}
use Rattle.rrc_trace.proofs.SaysLemmas.{says_first, first_said, says_last, last_said}
use Rattle.rrc_text.proofs.NameLemmas.{says_what_is_spelled}
use Rattle.rrc_text.proofs.SaidLemmas.{said_first, said_last}
use Rattle.rrc_trace.proofs.SpelledLemmas.{moment-says, says_moment, ttl-says, says_ttl, rtype-says, says_rtype, trust-says, says_trust, purpose-says, says_purpose, mode-says, says_mode, form_word, form-says}
use Rattle.rrc_trace.proofs.SpelledItems.{octets-say, say_octets, fetched-says, says_fetched, items-say, say_items}

-- octets behind the word of a form have fields that make it a line
record IsForm (word octets : List ℕ) (line : Line) : Type 0 where
  fields : List (List ℕ)
  stand : HasFields octets fields
  says : FieldsOf (word ∷ fields) line

-- the moment, the name, and the type and class of a question stand in front of octets
record IsQuestionAt (octets : List ℕ) (moment : ℕ) (name : List ℕ) (kind : Kind) (behind : List ℕ) : Type 0 where
  moment_field : List ℕ
  name_field : List ℕ
  rtype_field : List ℕ
  is_moment : IsMoment moment_field moment
  spells : Spells name_field name
  is_rtype : IsRtype rtype_field kind.rtype kind.class
  before : (fields : List (List ℕ)) → HasFields behind fields → HasFields octets (moment_field ∷ name_field ∷ rtype_field ∷ fields)

question-says : (octets : List ℕ) (moment : ℕ) (name : List ℕ) (kind : Kind) (behind : List ℕ) → question_at octets ≡ Some (moment, name, kind, behind)
    → IsQuestionAt octets moment name kind behind
unfolding question_at
question-says octets moment name kind behind is =
    let dated = said_first (said_at moment_of octets) _ (moment, name, kind, behind) is in
    let named = said_first (said_at name_of dated.0.1) _ (moment, name, kind, behind) dated.1.1 in
    let typed = said_first (said_at rtype_of named.0.1) _ (moment, name, kind, behind) named.1.1 in
    let same : (dated.0.0, named.0.0, typed.0.0, typed.0.1) ≡ (moment, name, kind, behind) = said_last typed.1.1 in
    let first = says_first moment_of octets dated.0.0 dated.0.1 dated.1.0 in
    let second = says_first name_of dated.0.1 named.0.0 named.0.1 named.1.0 in
    let third = says_first rtype_of named.0.1 typed.0.0 typed.0.1 typed.1.0 in
    subst (λ (found : ℕ × List ℕ × Kind × List ℕ). IsQuestionAt octets found.0 found.1 found.2 found.3) same (record {
      moment_field = first.field;
      name_field = second.field;
      rtype_field = third.field;
      is_moment = moment-says first.field dated.0.0 first.says;
      spells = (says_what_is_spelled second.field named.0.0).0 second.says;
      is_rtype = rtype-says third.field typed.0.0 third.says;
      before = λ fields stand. first.before (second.field ∷ third.field ∷ fields) (second.before (third.field ∷ fields) (third.before fields stand));
    })

-- a question in front of octets is read
record IsQuestionRead (octets : List ℕ) (fields : List (List ℕ)) (moment : ℕ) (name : List ℕ) (kind : Kind) : Type 0 where
  behind : List ℕ
  others : HasFields behind fields
  read : question_at octets ≡ Some (moment, name, kind, behind)

question-read : (octets moment_field name_field rtype_field : List ℕ) (fields : List (List ℕ)) (moment : ℕ) (name : List ℕ) (kind : Kind)
    → HasFields octets (moment_field ∷ name_field ∷ rtype_field ∷ fields) → IsMoment moment_field moment → Spells name_field name
    → IsRtype rtype_field kind.rtype kind.class → IsQuestionRead octets fields moment name kind
unfolding question_at
question-read octets moment_field name_field rtype_field fields moment name kind stand is_moment spells is_rtype =
    let first = first_said moment_of octets moment_field (name_field ∷ rtype_field ∷ fields) moment stand (says_moment moment_field moment is_moment) in
    let second = first_said name_of first.behind name_field (rtype_field ∷ fields) name first.others ((says_what_is_spelled name_field name).1 spells) in
    let third = first_said rtype_of second.behind rtype_field fields kind second.others (says_rtype rtype_field kind is_rtype) in
    record { behind = third.behind; others = third.others; read = rw (first.said_here, second.said_here, third.said_here) refl }

-- the trust, the time to live and the data of a put
record IsKeptIn (rtype : ℕ) (octets : List ℕ) (trust : Trust) (ttl : ℕ) (items : List (List ℕ)) : Type 0 where
  trust_field : List ℕ
  ttl_field : List ℕ
  items_field : List ℕ
  is_trust : IsTrust trust_field trust
  is_ttl : IsTtl ttl_field ttl
  are_items : AreItems rtype items_field items
  stand : HasFields octets (trust_field ∷ ttl_field ∷ items_field ∷ [])

kept-says : (rtype : ℕ) (octets : List ℕ) (trust : Trust) (ttl : ℕ) (items : List (List ℕ)) → kept_of rtype octets ≡ Some (trust, ttl, items)
    → IsKeptIn rtype octets trust ttl items
unfolding kept_of
kept-says rtype octets trust ttl items is =
    let trusted = said_first (said_at trust_of octets) _ (trust, ttl, items) is in
    let living = said_first (said_at ttl_of trusted.0.1) _ (trust, ttl, items) trusted.1.1 in
    let found = said_first (said_at (items_of rtype) living.0.1) _ (trust, ttl, items) living.1.1 in
    let last = says_last found.0.1 (trusted.0.0, living.0.0, found.0.0) (trust, ttl, items) found.1.1 in
    let first = says_first trust_of octets trusted.0.0 trusted.0.1 trusted.1.0 in
    let second = says_first ttl_of trusted.0.1 living.0.0 living.0.1 living.1.0 in
    let third = says_first (items_of rtype) living.0.1 found.0.0 found.0.1 found.1.0 in
    subst (λ (kept : Trust × ℕ × List (List ℕ)). IsKeptIn rtype octets kept.0 kept.1 kept.2) last.same (record {
      trust_field = first.field;
      ttl_field = second.field;
      items_field = third.field;
      is_trust = trust-says first.field trusted.0.0 first.says;
      is_ttl = ttl-says second.field living.0.0 second.says;
      are_items = items-say rtype third.field found.0.0 third.says;
      stand = first.before (second.field ∷ third.field ∷ []) (second.before (third.field ∷ []) (third.before [] last.none));
    })

kept-read : (rtype : ℕ) (octets trust_field ttl_field items_field : List ℕ) (trust : Trust) (ttl : ℕ) (items : List (List ℕ))
    → HasFields octets (trust_field ∷ ttl_field ∷ items_field ∷ []) → IsTrust trust_field trust → IsTtl ttl_field ttl → AreItems rtype items_field items
    → kept_of rtype octets ≡ Some (trust, ttl, items)
unfolding kept_of
kept-read rtype octets trust_field ttl_field items_field trust ttl items stand is_trust is_ttl are_items =
    let first = first_said trust_of octets trust_field (ttl_field ∷ items_field ∷ []) trust stand (says_trust trust_field trust is_trust) in
    let second = first_said ttl_of first.behind ttl_field (items_field ∷ []) ttl first.others (says_ttl ttl_field ttl is_ttl) in
    let third = first_said (items_of rtype) second.behind items_field [] items second.others (say_items rtype items_field items are_items) in
    rw (first.said_here, second.said_here, third.said_here) (last_said third.behind (trust, ttl, items) third.others)

put-says : (octets : List ℕ) (line : Line) → put_of octets ≡ Some line → IsForm (codes "put") octets line
unfolding put_of
put-says octets line is =
    let found = said_first (question_at octets) _ line is in
    let kept = said_first (kept_of found.0.2.rtype found.0.3) _ line found.1.1 in
    let question = question-says octets found.0.0 found.0.1 found.0.2 found.0.3 found.1.0 in
    let behind = kept-says found.0.2.rtype found.0.3 kept.0.0 kept.0.1 kept.0.2 kept.1.0 in
    subst (IsForm (codes "put") octets) (said_last kept.1.1) (record {
      fields = question.moment_field ∷ question.name_field ∷ question.rtype_field ∷ behind.trust_field ∷ behind.ttl_field ∷ behind.items_field ∷ [];
      stand = question.before (behind.trust_field ∷ behind.ttl_field ∷ behind.items_field ∷ []) behind.stand;
      says = put question.is_moment question.spells question.is_rtype behind.is_trust behind.is_ttl behind.are_items;
    })

-- the purpose and the mode of an ask
record IsMannerIn (octets : List ℕ) (purpose : Purpose) (mode : Mode) : Type 0 where
  stand : HasFields octets (purpose_word purpose ∷ mode_word mode ∷ [])

manner-says : (octets : List ℕ) (purpose : Purpose) (mode : Mode) → manner_of octets ≡ Some (purpose, mode) → IsMannerIn octets purpose mode
unfolding manner_of
manner-says octets purpose mode is =
    let meant = said_first (said_at purpose_of octets) _ (purpose, mode) is in
    let wanted = said_first (said_at mode_of meant.0.1) _ (purpose, mode) meant.1.1 in
    let last = says_last wanted.0.1 (meant.0.0, wanted.0.0) (purpose, mode) wanted.1.1 in
    let first = says_first purpose_of octets meant.0.0 meant.0.1 meant.1.0 in
    let second = says_first mode_of meant.0.1 wanted.0.0 wanted.0.1 wanted.1.0 in
    let stand : HasFields octets (first.field ∷ second.field ∷ []) = first.before (second.field ∷ []) (second.before [] last.none) in
    subst (λ (manner : Purpose × Mode). IsMannerIn octets manner.0 manner.1) last.same (record {
      stand = subst (λ (word : List ℕ). HasFields octets (word ∷ mode_word wanted.0.0 ∷ [])) (purpose-says first.field meant.0.0 first.says)
          (subst (λ (word : List ℕ). HasFields octets (first.field ∷ word ∷ [])) (mode-says second.field wanted.0.0 second.says) stand);
    })

manner-read : (octets : List ℕ) (purpose : Purpose) (mode : Mode) → HasFields octets (purpose_word purpose ∷ mode_word mode ∷ []) → manner_of octets ≡ Some (purpose, mode)
unfolding manner_of
manner-read octets purpose mode stand =
    let first = first_said purpose_of octets (purpose_word purpose) (mode_word mode ∷ []) purpose stand (says_purpose purpose) in
    let second = first_said mode_of first.behind (mode_word mode) [] mode first.others (says_mode mode) in
    rw (first.said_here, second.said_here) (last_said second.behind (purpose, mode) second.others)

ask-says : (octets : List ℕ) (line : Line) → ask_of octets ≡ Some line → IsForm (codes "ask") octets line
unfolding ask_of
ask-says octets line is =
    let found = said_first (question_at octets) _ line is in
    let manner = said_first (manner_of found.0.3) _ line found.1.1 in
    let question = question-says octets found.0.0 found.0.1 found.0.2 found.0.3 found.1.0 in
    let behind = manner-says found.0.3 manner.0.0 manner.0.1 manner.1.0 in
    subst (IsForm (codes "ask") octets) (said_last manner.1.1) (record {
      fields = question.moment_field ∷ question.name_field ∷ question.rtype_field ∷ purpose_word manner.0.0 ∷ mode_word manner.0.1 ∷ [];
      stand = question.before (purpose_word manner.0.0 ∷ mode_word manner.0.1 ∷ []) behind.stand;
      says = ask question.is_moment question.spells refl question.is_rtype;
    })

fail-says : (octets : List ℕ) (line : Line) → fail_of octets ≡ Some line → IsForm (codes "fail") octets line
unfolding fail_of
fail-says octets line is =
    let found = said_first (question_at octets) _ line is in
    let question = question-says octets found.0.0 found.0.1 found.0.2 found.0.3 found.1.0 in
    let last = says_last found.0.3 _ line found.1.1 in
    subst (IsForm (codes "fail") octets) last.same (record {
      fields = question.moment_field ∷ question.name_field ∷ question.rtype_field ∷ [];
      stand = question.before [] last.none;
      says = fail question.is_moment question.spells question.is_rtype;
    })

response-says : (octets : List ℕ) (line : Line) → response_of octets ≡ Some line → IsForm (codes "response") octets line
unfolding response_of
response-says octets line is =
    let dated = said_first (said_at moment_of octets) _ line is in
    let zone = said_first (said_at name_of dated.0.1) _ line dated.1.1 in
    let sent = said_first (said_at message_of zone.0.1) _ line zone.1.1 in
    let last = says_last sent.0.1 _ line sent.1.1 in
    let first = says_first moment_of octets dated.0.0 dated.0.1 dated.1.0 in
    let second = says_first name_of dated.0.1 zone.0.0 zone.0.1 zone.1.0 in
    let third = says_first message_of zone.0.1 sent.0.0 sent.0.1 sent.1.0 in
    subst (IsForm (codes "response") octets) last.same (record {
      fields = first.field ∷ second.field ∷ third.field ∷ [];
      stand = first.before (second.field ∷ third.field ∷ []) (second.before (third.field ∷ []) (third.before [] last.none));
      says = response (moment-says first.field dated.0.0 first.says) ((says_what_is_spelled second.field zone.0.0).0 second.says)
          (octets-say third.field sent.0.0 third.says);
    })

-- the zone and the message of a fetch
record IsSentIn (octets zone : List ℕ) (sent : Option (List ℕ)) : Type 0 where
  zone_field : List ℕ
  message_field : List ℕ
  spells : Spells zone_field zone
  is_message : SpellsFetched message_field sent
  stand : HasFields octets (zone_field ∷ message_field ∷ [])

sent-says : (octets zone : List ℕ) (sent : Option (List ℕ)) → sent_of octets ≡ Some (zone, sent) → IsSentIn octets zone sent
unfolding sent_of
sent-says octets zone sent is =
    let named = said_first (said_at name_of octets) _ (zone, sent) is in
    let told = said_first (said_at fetched_of named.0.1) _ (zone, sent) named.1.1 in
    let last = says_last told.0.1 (named.0.0, told.0.0) (zone, sent) told.1.1 in
    let first = says_first name_of octets named.0.0 named.0.1 named.1.0 in
    let second = says_first fetched_of named.0.1 told.0.0 told.0.1 told.1.0 in
    subst (λ (found : List ℕ × Option (List ℕ)). IsSentIn octets found.0 found.1) last.same (record {
      zone_field = first.field;
      message_field = second.field;
      spells = (says_what_is_spelled first.field named.0.0).0 first.says;
      is_message = fetched-says second.field told.0.0 second.says;
      stand = first.before (second.field ∷ []) (second.before [] last.none);
    })

sent-read : (octets zone_field message_field zone : List ℕ) (sent : Option (List ℕ)) → HasFields octets (zone_field ∷ message_field ∷ [])
    → Spells zone_field zone → SpellsFetched message_field sent → sent_of octets ≡ Some (zone, sent)
unfolding sent_of
sent-read octets zone_field message_field zone sent stand spells is_message =
    let first = first_said name_of octets zone_field (message_field ∷ []) zone stand ((says_what_is_spelled zone_field zone).1 spells) in
    let second = first_said fetched_of first.behind message_field [] sent first.others (says_fetched message_field sent is_message) in
    rw (first.said_here, second.said_here) (last_said second.behind (zone, sent) second.others)

fetch-says : (octets : List ℕ) (line : Line) → fetch_of octets ≡ Some line → IsForm (codes "fetch") octets line
unfolding fetch_of
fetch-says octets line is =
    let found = said_first (question_at octets) _ line is in
    let sent = said_first (sent_of found.0.3) _ line found.1.1 in
    let question = question-says octets found.0.0 found.0.1 found.0.2 found.0.3 found.1.0 in
    let behind = sent-says found.0.3 sent.0.0 sent.0.1 sent.1.0 in
    subst (IsForm (codes "fetch") octets) (said_last sent.1.1) (record {
      fields = question.moment_field ∷ question.name_field ∷ question.rtype_field ∷ behind.zone_field ∷ behind.message_field ∷ [];
      stand = question.before (behind.zone_field ∷ behind.message_field ∷ []) behind.stand;
      says = fetch question.is_moment question.spells question.is_rtype behind.spells behind.is_message;
    })

sweep-says : (octets : List ℕ) (line : Line) → sweep_of octets ≡ Some line → IsForm (codes "sweep") octets line
unfolding sweep_of
sweep-says octets line is =
    let dated = said_first (said_at moment_of octets) _ line is in
    let last = says_last dated.0.1 _ line dated.1.1 in
    let first = says_first moment_of octets dated.0.0 dated.0.1 dated.1.0 in
    subst (IsForm (codes "sweep") octets) last.same (record {
      fields = first.field ∷ [];
      stand = first.before [] last.none;
      says = sweep (moment-says first.field dated.0.0 first.says);
    })

checkpoint-says : (octets : List ℕ) (line : Line) → ended octets lines.Checkpoint ≡ Some line → IsForm (codes "checkpoint") octets line
checkpoint-says octets line is =
    let last = says_last octets lines.Checkpoint line is in
    subst (IsForm (codes "checkpoint") octets) last.same (record { fields = []; stand = last.none; says = checkpoint })

-- octets have the fields of a line
pub record HasLine (octets : List ℕ) (line : Line) : Type 0 where
  pub fields : List (List ℕ)
  pub apart : HasFields octets fields
  pub says : FieldsOf fields line

form-is : (form : Form) (octets : List ℕ) (line : Line) → said_as form octets ≡ Some line → IsForm (form_word form) octets line
form-is forms.Put octets line is = put-says octets line is
form-is forms.Ask octets line is = ask-says octets line is
form-is forms.Fail octets line is = fail-says octets line is
form-is forms.Response octets line is = response-says octets line is
form-is forms.Fetch octets line is = fetch-says octets line is
form-is forms.Sweep octets line is = sweep-says octets line is
form-is forms.Checkpoint octets line is = checkpoint-says octets line is

pub line-says : (octets : List ℕ) (line : Line) → line_of octets ≡ Some line → HasLine octets line
line-says octets line is =
    let form = said_first (said_at form_of octets) _ line is in
    let first = says_first form_of octets form.0.0 form.0.1 form.1.0 in
    let behind = form-is form.0.0 form.0.1 line form.1.1 in
    let word : first.field ≡ form_word form.0.0 = form-says first.field form.0.0 first.says in
    record {
      fields = form_word form.0.0 ∷ behind.fields;
      apart = subst (λ (field : List ℕ). HasFields octets (field ∷ behind.fields)) word (first.before behind.fields behind.stand);
      says = behind.says;
    }

-- octets whose first field is the word of a form are read as that form
read_as : (form : Form) (octets : List ℕ) (fields : List (List ℕ)) (line : Line) → form_of (form_word form) ≡ Some form → HasFields octets (form_word form ∷ fields)
    → ((behind : List ℕ) → HasFields behind fields → said_as form behind ≡ Some line) → line_of octets ≡ Some line
read_as form octets fields line is stand reads =
    let first = first_said form_of octets (form_word form) fields form stand is in
    ap (λ (said : Option (Form × List ℕ)). said >>= (λ found. said_as found.0 found.1)) first.said_here ∙ reads first.behind first.others

pub line-read : (octets : List ℕ) (fields : List (List ℕ)) (line : Line) → HasFields octets fields → FieldsOf fields line → line_of octets ≡ Some line
unfolding put_of ask_of fail_of response_of fetch_of sweep_of
line-read octets fields line stand (put {moment = moment} {name = name} {rtype = rtype} {trust = trust} {ttl = ttl} {items = items} {line = offer} is_moment spells is_rtype is_trust is_ttl are_items) =
    read_as forms.Put octets (moment ∷ name ∷ rtype ∷ trust ∷ ttl ∷ items ∷ []) line refl stand (λ behind others.
    let question = question-read behind moment name rtype (trust ∷ ttl ∷ items ∷ []) offer.moment offer.name (record { rtype = offer.rtype; class = offer.class }) others is_moment spells is_rtype in
    let kept = kept-read offer.rtype question.behind trust ttl items offer.trust offer.ttl offer.items question.others is_trust is_ttl are_items in
    rw (question.read, kept) refl)
line-read octets fields line stand (ask {moment = moment} {name = name} {rtype = rtype} {spelled = spelled} {line = asked} is_moment spells is_folded is_rtype) =
    read_as forms.Ask octets (moment ∷ name ∷ rtype ∷ purpose_word asked.purpose ∷ mode_word asked.mode ∷ []) line refl stand (λ behind others.
    let question = question-read behind moment name rtype (purpose_word asked.purpose ∷ mode_word asked.mode ∷ []) asked.moment spelled (record { rtype = asked.rtype; class = asked.class }) others is_moment spells is_rtype in
    let manner = manner-read question.behind asked.purpose asked.mode question.others in
    rw (question.read, manner, is_folded) refl)
line-read octets fields line stand (response {moment = moment} {zone = zone} {message = message} {line = sent} is_moment spells is_message) =
    read_as forms.Response octets (moment ∷ zone ∷ message ∷ []) line refl stand (λ behind others.
    let first = first_said moment_of behind moment (zone ∷ message ∷ []) sent.moment others (says_moment moment sent.moment is_moment) in
    let second = first_said name_of first.behind zone (message ∷ []) sent.zone first.others ((says_what_is_spelled zone sent.zone).1 spells) in
    let third = first_said message_of second.behind message [] sent.octets second.others (say_octets message sent.octets is_message) in
    rw (first.said_here, second.said_here, third.said_here) (last_said third.behind (lines.Response sent) third.others))
line-read octets fields line stand (fail {moment = moment} {name = name} {rtype = rtype} {line = failed} is_moment spells is_rtype) =
    read_as forms.Fail octets (moment ∷ name ∷ rtype ∷ []) line refl stand (λ behind others.
    let question = question-read behind moment name rtype [] failed.moment failed.name (record { rtype = failed.rtype; class = failed.class }) others is_moment spells is_rtype in
    rw question.read (last_said question.behind (lines.Fail failed) question.others))
line-read octets fields line stand (fetch {moment = moment} {name = name} {rtype = rtype} {zone = zone} {message = message} {line = fetched} is_moment spells is_rtype spells_zone is_message) =
    read_as forms.Fetch octets (moment ∷ name ∷ rtype ∷ zone ∷ message ∷ []) line refl stand (λ behind others.
    let question = question-read behind moment name rtype (zone ∷ message ∷ []) fetched.moment fetched.name (record { rtype = fetched.rtype; class = fetched.class }) others is_moment spells is_rtype in
    let sent = sent-read question.behind zone message fetched.zone fetched.octets question.others spells_zone is_message in
    rw (question.read, sent) refl)
line-read octets fields line stand (sweep {field = field} {moment = moment} is_moment) =
    read_as forms.Sweep octets (field ∷ []) line refl stand (λ behind others.
    let first = first_said moment_of behind field [] moment others (says_moment field moment is_moment) in
    rw first.said_here (last_said first.behind (lines.Sweep moment) first.others))
line-read octets fields line stand checkpoint =
    read_as forms.Checkpoint octets [] line refl stand (λ behind others. last_said behind lines.Checkpoint others)
