use Rattle.put_laws.specs.Puts.{Begins, Stays, Takes, Tells, listed_behind}
use Rattle.put_laws.proofs.PlacesOn.{begun_places, others_then, places_then, taken_places, told_places, walk_now}
use Rattle.put_laws.proofs.Turns.{turn_of}
use Rattle.put_laws.proofs.placing.places_go_on.Goals as goal

pub returns-clause-stays : goal.returns-clause-stays
returns-clause-stays c = λ blocks image d table stored at changes before s index goes walk is.
    places_then blocks image d table stored at changes before s Stays goes walk s index is

pub returns-clause-tells : goal.returns-clause-tells
returns-clause-tells c = λ blocks image d table stored at changes before s store index goes walk turn is.
    let here = turn_of blocks image d table stored at changes before s store walk turn in
    places_then blocks image d table stored at changes before s Tells goes walk (listed_behind Tells s) index
    (told_places blocks image before table stored at s store here (walk_now blocks image d table stored at changes before walk) index is)

pub returns-clause-takes : goal.returns-clause-takes
returns-clause-takes c = λ blocks image d table stored at changes before s store gone index goes walk turn accepts spells is.
    let here = turn_of blocks image d table stored at changes before s store walk turn in
    places_then blocks image d table stored at changes before s (Takes gone) goes walk (listed_behind (Takes gone) s) _
    (taken_places blocks image before table stored at s store here (walk_now blocks image d table stored at changes before walk) index is gone accepts spells)

pub returns-clause-begins : goal.returns-clause-begins
returns-clause-begins c = λ blocks image d table stored at changes before s store gone link index goes walk turn accepts spells is.
    let here = turn_of blocks image d table stored at changes before s store walk turn in
    places_then blocks image d table stored at changes before s (Begins gone link) goes walk (listed_behind (Begins gone link) s) _
    (begun_places blocks image before table stored at s store here (walk_now blocks image d table stored at changes before walk) index is gone accepts link spells)

pub returns-clause-others : goal.returns-clause-others
returns-clause-others c = λ blocks image d table stored at place changes before s other outcome index goes walk differs listed is.
    others_then blocks image d table stored at changes before s outcome goes walk place other index differs listed is
