use Rattle.std.proofs.Common.{◌∙◌, sym, ap, subst}
use Rattle.neutron_http.specs.Replies.{IsFieldValue}
use Rattle.neutron_http.specs.Paths.{path_at, template_of}
use Rattle.neutron_http.specs.Routes.{routed, routed_by, method_in, parameters_of, To}
use Rattle.neutron_http.proofs.RouteLemmas.{no_text, a_text, allowed_value}
use Rattle.neutron_http.proofs.route.Routes.find.Goals as goal

pub returns-in_default-clause-route : goal.returns-in_default-clause-route
returns-in_default-clause-route c = no_text c.args.method.now c.args.path.now c.in_default.ensures.cases.0

pub returns-in_default-find_path-clause-route : goal.returns-in_default-find_path-clause-route
returns-in_default-find_path-clause-route c =
    let m = c.args.method.now in
    let p = c.args.path.now in
    let utf8 = c.in-Ok.ensures.cases in
    a_text m p utf8.1 ∙ ap (routed m p) (ap path_at (sym utf8.0) ∙ sym c.find_path.ensures ∙ c.in_default-find_path.is)

pub returns-in_default-find_method-clause-route : goal.returns-in_default-find_method-clause-route
returns-in_default-find_method-clause-route c =
    let m = c.args.method.now in
    let p = c.args.path.now in
    let utf8 = c.in-Ok.ensures.cases in (
      c.in-Some.place,
      a_text m p utf8.1 ∙ ap (routed m p) (ap path_at (sym utf8.0) ∙ sym c.find_path.ensures ∙ c.in-Some.is)
          ∙ ap (routed_by p c.in-Some.place) (ap (λ ms. method_in ms m) (sym c.methods.ensures) ∙ sym c.find_method.ensures ∙ c.in_default-find_method.is),
      c.in_ok-allowed.ensures ∙ c.allowed.ensures,
    )

pub returns-in_default-find_method-clause-allowed :
    goal.returns-in_default-find_method-clause-allowed
returns-in_default-find_method-clause-allowed c = subst IsFieldValue (sym (c.in_ok-allowed.ensures ∙ c.allowed.ensures)) (allowed_value c.in-Some.place)

pub returns-clause-route : goal.returns-clause-route
returns-clause-route c =
    let m = c.args.method.now in
    let p = c.args.path.now in
    let utf8 = c.in-Ok.ensures.cases in
    a_text m p utf8.1 ∙ ap (routed m p) (ap path_at (sym utf8.0) ∙ sym c.find_path.ensures ∙ c.in-Some.is)
    ∙ ap (routed_by p c.in-Some.place) (ap (λ ms. method_in ms m) (sym c.methods.ensures) ∙ sym c.find_method.ensures ∙ c.in-Some-find_method.is)
    ∙ ap (To c.in-Some.place c.in-Some-find_method.method) (ap (parameters_of (template_of c.in-Some.place)) (sym utf8.0) ∙ ap (λ t. parameters_of t c.in-Ok.text.now) (sym c.template.ensures) ∙ sym c.in_ok-parameters.ensures)
