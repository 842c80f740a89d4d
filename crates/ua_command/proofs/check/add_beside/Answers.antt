use Rattle.ua_command.proofs.check.add_beside.Goals as goal

pub returns-in-FindServers-FindServers : goal.returns-in-FindServers-FindServers
returns-in-FindServers-FindServers c =
    rw (c.in-FindServers-FindServers.is-0, c.in-FindServers-FindServers.is-1) (rw (c.applications.ensures, c.applications-in-FindServers-FindServers.ensures) at c.add_application_differences.ensures.same)

pub returns-in-GetEndpoints-GetEndpoints : goal.returns-in-GetEndpoints-GetEndpoints
returns-in-GetEndpoints-GetEndpoints c =
    rw (c.in-GetEndpoints-GetEndpoints.is-0, c.in-GetEndpoints-GetEndpoints.is-1) (rw (c.endpoints.ensures, c.endpoints-in-GetEndpoints-GetEndpoints.ensures) at c.add_endpoint_differences.ensures.same)
